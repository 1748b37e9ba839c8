-- The names that are no program's (ISO/IEC 9899:1999): the keywords (6.4.1), those that the headers `stdint.h` (7.18),
-- `stdio.h` (7.19) and `stdlib.h` (7.20) define, and those that begin with an underscore (7.1.3).
use Rattle.std.specs.Prelude.{ℕ, Bool, true, false, not, nat_eq, ◌||◌, ◌&&◌, ◌==◌, List, [], ◌∷◌, ◌++◌, codes}
use Rattle.std.specs.List.{list_any}
use Rattle.std.specs.Str.{bytes_eq}

abbrev pub keywords : List (List ℕ)
keywords = codes "auto" ∷ codes "break" ∷ codes "case" ∷ codes "char" ∷ codes "const" ∷ codes "continue" ∷ codes "default" ∷ codes "do" ∷ codes "double" ∷ codes "else" ∷ codes "enum" ∷ codes "extern" ∷ codes "float" ∷ codes "for" ∷ codes "goto" ∷ codes "if" ∷ codes "inline" ∷ codes "int" ∷ codes "long" ∷ codes "register" ∷ codes "restrict" ∷ codes "return" ∷ codes "short" ∷ codes "signed" ∷ codes "sizeof" ∷ codes "static" ∷ codes "struct" ∷ codes "switch" ∷ codes "typedef" ∷ codes "union" ∷ codes "unsigned" ∷ codes "void" ∷ codes "volatile" ∷ codes "while" ∷ []

-- the types of `stdint.h` (7.18.1)
abbrev pub integer_types : List (List ℕ)
integer_types = codes "int8_t" ∷ codes "int16_t" ∷ codes "int32_t" ∷ codes "int64_t" ∷ codes "uint8_t" ∷ codes "uint16_t" ∷ codes "uint32_t" ∷ codes "uint64_t" ∷ codes "int_least8_t" ∷ codes "int_least16_t" ∷ codes "int_least32_t" ∷ codes "int_least64_t" ∷ codes "uint_least8_t" ∷ codes "uint_least16_t" ∷ codes "uint_least32_t" ∷ codes "uint_least64_t" ∷ codes "int_fast8_t" ∷ codes "int_fast16_t" ∷ codes "int_fast32_t" ∷ codes "int_fast64_t" ∷ codes "uint_fast8_t" ∷ codes "uint_fast16_t" ∷ codes "uint_fast32_t" ∷ codes "uint_fast64_t" ∷ codes "intptr_t" ∷ codes "uintptr_t" ∷ codes "intmax_t" ∷ codes "uintmax_t" ∷ []

-- the macros of `stdint.h` for the limits of types (7.18.2, 7.18.3)
abbrev pub integer_limits : List (List ℕ)
integer_limits = codes "INT8_MIN" ∷ codes "INT8_MAX" ∷ codes "UINT8_MAX" ∷ codes "INT16_MIN" ∷ codes "INT16_MAX" ∷ codes "UINT16_MAX" ∷ codes "INT32_MIN" ∷ codes "INT32_MAX" ∷ codes "UINT32_MAX" ∷ codes "INT64_MIN" ∷ codes "INT64_MAX" ∷ codes "UINT64_MAX" ∷ codes "INT_LEAST8_MIN" ∷ codes "INT_LEAST8_MAX" ∷ codes "UINT_LEAST8_MAX" ∷ codes "INT_LEAST16_MIN" ∷ codes "INT_LEAST16_MAX" ∷ codes "UINT_LEAST16_MAX" ∷ codes "INT_LEAST32_MIN" ∷ codes "INT_LEAST32_MAX" ∷ codes "UINT_LEAST32_MAX" ∷ codes "INT_LEAST64_MIN" ∷ codes "INT_LEAST64_MAX" ∷ codes "UINT_LEAST64_MAX" ∷ codes "INT_FAST8_MIN" ∷ codes "INT_FAST8_MAX" ∷ codes "UINT_FAST8_MAX" ∷ codes "INT_FAST16_MIN" ∷ codes "INT_FAST16_MAX" ∷ codes "UINT_FAST16_MAX" ∷ codes "INT_FAST32_MIN" ∷ codes "INT_FAST32_MAX" ∷ codes "UINT_FAST32_MAX" ∷ codes "INT_FAST64_MIN" ∷ codes "INT_FAST64_MAX" ∷ codes "UINT_FAST64_MAX" ∷ codes "INTPTR_MIN" ∷ codes "INTPTR_MAX" ∷ codes "UINTPTR_MAX" ∷ codes "INTMAX_MIN" ∷ codes "INTMAX_MAX" ∷ codes "UINTMAX_MAX" ∷ codes "PTRDIFF_MIN" ∷ codes "PTRDIFF_MAX" ∷ codes "SIG_ATOMIC_MIN" ∷ codes "SIG_ATOMIC_MAX" ∷ codes "SIZE_MAX" ∷ codes "WCHAR_MIN" ∷ codes "WCHAR_MAX" ∷ codes "WINT_MIN" ∷ codes "WINT_MAX" ∷ []

-- its macros for constants (7.18.4)
abbrev pub integer_constants : List (List ℕ)
integer_constants = codes "INT8_C" ∷ codes "UINT8_C" ∷ codes "INT16_C" ∷ codes "UINT16_C" ∷ codes "INT32_C" ∷ codes "UINT32_C" ∷ codes "INT64_C" ∷ codes "UINT64_C" ∷ codes "INTMAX_C" ∷ codes "UINTMAX_C" ∷ []

-- the types and macros of `stdio.h` (7.19.1)
abbrev pub stream_names : List (List ℕ)
stream_names = codes "size_t" ∷ codes "FILE" ∷ codes "fpos_t" ∷ codes "NULL" ∷ codes "BUFSIZ" ∷ codes "EOF" ∷ codes "FOPEN_MAX" ∷ codes "FILENAME_MAX" ∷ codes "L_tmpnam" ∷ codes "SEEK_CUR" ∷ codes "SEEK_END" ∷ codes "SEEK_SET" ∷ codes "TMP_MAX" ∷ codes "stderr" ∷ codes "stdin" ∷ codes "stdout" ∷ []

-- its functions
abbrev pub stream_functions : List (List ℕ)
stream_functions = codes "remove" ∷ codes "rename" ∷ codes "tmpfile" ∷ codes "tmpnam" ∷ codes "fclose" ∷ codes "fflush" ∷ codes "fopen" ∷ codes "freopen" ∷ codes "setbuf" ∷ codes "setvbuf" ∷ codes "fprintf" ∷ codes "fscanf" ∷ codes "printf" ∷ codes "scanf" ∷ codes "snprintf" ∷ codes "sprintf" ∷ codes "sscanf" ∷ codes "vfprintf" ∷ codes "vfscanf" ∷ codes "vprintf" ∷ codes "vscanf" ∷ codes "vsnprintf" ∷ codes "vsprintf" ∷ codes "vsscanf" ∷ codes "fgetc" ∷ codes "fgets" ∷ codes "fputc" ∷ codes "fputs" ∷ codes "getc" ∷ codes "getchar" ∷ codes "gets" ∷ codes "putc" ∷ codes "putchar" ∷ codes "puts" ∷ codes "ungetc" ∷ codes "fread" ∷ codes "fwrite" ∷ codes "fgetpos" ∷ codes "fseek" ∷ codes "fsetpos" ∷ codes "ftell" ∷ codes "rewind" ∷ codes "clearerr" ∷ codes "feof" ∷ codes "ferror" ∷ codes "perror" ∷ []

-- the further types and macros of `stdlib.h` (7.20)
abbrev pub general_names : List (List ℕ)
general_names = codes "wchar_t" ∷ codes "div_t" ∷ codes "ldiv_t" ∷ codes "lldiv_t" ∷ codes "EXIT_FAILURE" ∷ codes "EXIT_SUCCESS" ∷ codes "RAND_MAX" ∷ codes "MB_CUR_MAX" ∷ []

-- its functions
abbrev pub general_functions : List (List ℕ)
general_functions = codes "atof" ∷ codes "atoi" ∷ codes "atol" ∷ codes "atoll" ∷ codes "strtod" ∷ codes "strtof" ∷ codes "strtold" ∷ codes "strtol" ∷ codes "strtoll" ∷ codes "strtoul" ∷ codes "strtoull" ∷ codes "rand" ∷ codes "srand" ∷ codes "calloc" ∷ codes "free" ∷ codes "malloc" ∷ codes "realloc" ∷ codes "abort" ∷ codes "atexit" ∷ codes "exit" ∷ codes "getenv" ∷ codes "system" ∷ codes "bsearch" ∷ codes "qsort" ∷ codes "abs" ∷ codes "labs" ∷ codes "llabs" ∷ codes "div" ∷ codes "ldiv" ∷ codes "lldiv" ∷ codes "mblen" ∷ codes "mbtowc" ∷ codes "wctomb" ∷ codes "mbstowcs" ∷ codes "wcstombs" ∷ []

abbrev pub reserved : List (List ℕ)
reserved = keywords ++ integer_types ++ integer_limits ++ integer_constants ++ stream_names ++ stream_functions ++ general_names ++ general_functions

abbrev pub begins_low : List ℕ → Bool
begins_low [] = false
begins_low (first ∷ rest) = first == 95

abbrev pub is_reserved : List ℕ → Bool
is_reserved name = begins_low name || list_any (bytes_eq name) reserved

-- whether a name begins with these bytes
abbrev pub begins_with : List ℕ → List ℕ → Bool
begins_with [] name = true
begins_with (b ∷ front) [] = false
begins_with (b ∷ front) (c ∷ name) = nat_eq b c && begins_with front name

-- whether no reserved name begins with these bytes
abbrev pub is_free_front : List ℕ → Bool
is_free_front [] = false
is_free_front (first ∷ front) = not (first == 95) && not (list_any (begins_with (first ∷ front)) reserved)
