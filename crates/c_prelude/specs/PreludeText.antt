-- The text of the prelude, function by function, each line with the newline that ends it.
use Rattle.std.specs.Prelude.{ℕ, List, [], ◌∷◌, codes, map}
use Rattle.lf_base.specs.Contents.{joined}

abbrev pub header_lines : List (List ℕ)
header_lines =
    codes "#include <stdint.h>\n"
    ∷ codes "#include <stdio.h>\n"
    ∷ codes "#include <stdlib.h>\n"
    ∷ []

abbrev pub location_lines : List (List ℕ)
location_lines =
    codes "static unsigned char *lf_name;\n"
    ∷ codes "static int64_t lf_line;\n"
    ∷ []

abbrev pub lf_trap_lines : List (List ℕ)
lf_trap_lines =
    codes "static void lf_trap(int64_t k, unsigned char *s) {\n"
    ∷ codes "int64_t i = 0;\n"
    ∷ codes "int64_t d = 1;\n"
    ∷ codes "unsigned char *p = (unsigned char *)\"lf: trap \";\n"
    ∷ codes "while (p[i] != 0) {\n"
    ∷ codes "fputc(p[i], stderr);\n"
    ∷ codes "i = i + 1;\n"
    ∷ codes "}\n"
    ∷ codes "i = 0;\n"
    ∷ codes "while (s[i] != 0) {\n"
    ∷ codes "fputc(s[i], stderr);\n"
    ∷ codes "i = i + 1;\n"
    ∷ codes "}\n"
    ∷ codes "fputc(32, stderr);\n"
    ∷ codes "fputc(97, stderr);\n"
    ∷ codes "fputc(116, stderr);\n"
    ∷ codes "fputc(32, stderr);\n"
    ∷ codes "i = 0;\n"
    ∷ codes "while (lf_name[i] != 0) {\n"
    ∷ codes "fputc(lf_name[i], stderr);\n"
    ∷ codes "i = i + 1;\n"
    ∷ codes "}\n"
    ∷ codes "fputc(58, stderr);\n"
    ∷ codes "while (d <= (lf_line / 10)) {\n"
    ∷ codes "d = d * 10;\n"
    ∷ codes "}\n"
    ∷ codes "while (0 < d) {\n"
    ∷ codes "fputc((int)(48 + ((lf_line / d) % 10)), stderr);\n"
    ∷ codes "d = d / 10;\n"
    ∷ codes "}\n"
    ∷ codes "fputc(10, stderr);\n"
    ∷ codes "exit((int)(100 + k));\n"
    ∷ codes "}\n"
    ∷ []

abbrev pub lf_over_lines : List (List ℕ)
lf_over_lines =
    codes "static void lf_over(void) {\n"
    ∷ codes "lf_trap(1, (unsigned char *)\"IntegerOverflow\");\n"
    ∷ codes "}\n"
    ∷ []

abbrev pub lf_zero_lines : List (List ℕ)
lf_zero_lines =
    codes "static void lf_zero(int64_t b) {\n"
    ∷ codes "if (b == 0) {\n"
    ∷ codes "lf_trap(2, (unsigned char *)\"DivisionByZero\");\n"
    ∷ codes "}\n"
    ∷ codes "}\n"
    ∷ []

abbrev pub lf_fit_lines : List (List ℕ)
lf_fit_lines =
    codes "static int64_t lf_fit(int64_t a) {\n"
    ∷ codes "if ((a < (-INT64_C(2147483648))) || (2147483647 < a)) {\n"
    ∷ codes "lf_over();\n"
    ∷ codes "}\n"
    ∷ codes "return a;\n"
    ∷ codes "}\n"
    ∷ []

abbrev pub lf_add_lines : List (List ℕ)
lf_add_lines =
    codes "static int64_t lf_add(int64_t a, int64_t b) {\n"
    ∷ codes "if (((0 < b) && ((INT64_MAX - b) < a)) || ((b < 0) && (a < (INT64_MIN - b)))) {\n"
    ∷ codes "lf_over();\n"
    ∷ codes "}\n"
    ∷ codes "return a + b;\n"
    ∷ codes "}\n"
    ∷ []

abbrev pub lf_sub_lines : List (List ℕ)
lf_sub_lines =
    codes "static int64_t lf_sub(int64_t a, int64_t b) {\n"
    ∷ codes "if (((b < 0) && ((INT64_MAX + b) < a)) || ((0 < b) && (a < (INT64_MIN + b)))) {\n"
    ∷ codes "lf_over();\n"
    ∷ codes "}\n"
    ∷ codes "return a - b;\n"
    ∷ codes "}\n"
    ∷ []

abbrev pub lf_mul_lines : List (List ℕ)
lf_mul_lines =
    codes "static int64_t lf_mul(int64_t a, int64_t b) {\n"
    ∷ codes "int64_t bad = 0;\n"
    ∷ codes "if (0 < a) {\n"
    ∷ codes "if (0 < b) {\n"
    ∷ codes "bad = (INT64_MAX / b) < a;\n"
    ∷ codes "} else {\n"
    ∷ codes "bad = b < (INT64_MIN / a);\n"
    ∷ codes "}\n"
    ∷ codes "} else {\n"
    ∷ codes "if (0 < b) {\n"
    ∷ codes "bad = a < (INT64_MIN / b);\n"
    ∷ codes "} else {\n"
    ∷ codes "if (b < 0) {\n"
    ∷ codes "bad = a < (INT64_MAX / b);\n"
    ∷ codes "}\n"
    ∷ codes "}\n"
    ∷ codes "}\n"
    ∷ codes "if (bad) {\n"
    ∷ codes "lf_over();\n"
    ∷ codes "}\n"
    ∷ codes "return a * b;\n"
    ∷ codes "}\n"
    ∷ []

abbrev pub lf_div_lines : List (List ℕ)
lf_div_lines =
    codes "static int64_t lf_div(int64_t a, int64_t b) {\n"
    ∷ codes "lf_zero(b);\n"
    ∷ codes "if ((a == INT64_MIN) && (b == (-1))) {\n"
    ∷ codes "lf_over();\n"
    ∷ codes "}\n"
    ∷ codes "return a / b;\n"
    ∷ codes "}\n"
    ∷ []

abbrev pub lf_mod_lines : List (List ℕ)
lf_mod_lines =
    codes "static int64_t lf_mod(int64_t a, int64_t b) {\n"
    ∷ codes "lf_zero(b);\n"
    ∷ codes "if (b == (-1)) {\n"
    ∷ codes "return 0;\n"
    ∷ codes "}\n"
    ∷ codes "return a % b;\n"
    ∷ codes "}\n"
    ∷ []

abbrev pub lf_modulo_lines : List (List ℕ)
lf_modulo_lines =
    codes "static int64_t lf_modulo(int64_t a, int64_t b) {\n"
    ∷ codes "int64_t r = lf_mod(a, b);\n"
    ∷ codes "if ((r != 0) && ((r < 0) != (b < 0))) {\n"
    ∷ codes "r = r + b;\n"
    ∷ codes "}\n"
    ∷ codes "return r;\n"
    ∷ codes "}\n"
    ∷ []

abbrev pub lf_pow_lines : List (List ℕ)
lf_pow_lines =
    codes "static int64_t lf_pow(int64_t a, int64_t b) {\n"
    ∷ codes "int64_t r = 1;\n"
    ∷ codes "if ((a == 1) || ((a == (-1)) && ((b % 2) == 0))) {\n"
    ∷ codes "return 1;\n"
    ∷ codes "}\n"
    ∷ codes "if (a == (-1)) {\n"
    ∷ codes "return a;\n"
    ∷ codes "}\n"
    ∷ codes "if (b < 0) {\n"
    ∷ codes "lf_zero(a);\n"
    ∷ codes "return 0;\n"
    ∷ codes "}\n"
    ∷ codes "if (a == 0) {\n"
    ∷ codes "return b == 0;\n"
    ∷ codes "}\n"
    ∷ codes "while (0 < b) {\n"
    ∷ codes "r = lf_mul(r, a);\n"
    ∷ codes "b = b - 1;\n"
    ∷ codes "}\n"
    ∷ codes "return r;\n"
    ∷ codes "}\n"
    ∷ []

abbrev pub lf_sign_lines : List (List ℕ)
lf_sign_lines =
    codes "static int64_t lf_sign(int64_t a, int64_t b) {\n"
    ∷ codes "if ((0 <= a) == (0 <= b)) {\n"
    ∷ codes "return a;\n"
    ∷ codes "}\n"
    ∷ codes "return lf_sub(0, a);\n"
    ∷ codes "}\n"
    ∷ []

abbrev pub lf_min_lines : List (List ℕ)
lf_min_lines =
    codes "static int64_t lf_min(int64_t a, int64_t b) {\n"
    ∷ codes "if (b < a) {\n"
    ∷ codes "return b;\n"
    ∷ codes "}\n"
    ∷ codes "return a;\n"
    ∷ codes "}\n"
    ∷ []

abbrev pub lf_max_lines : List (List ℕ)
lf_max_lines =
    codes "static int64_t lf_max(int64_t a, int64_t b) {\n"
    ∷ codes "if (a < b) {\n"
    ∷ codes "return b;\n"
    ∷ codes "}\n"
    ∷ codes "return a;\n"
    ∷ codes "}\n"
    ∷ []

abbrev pub lf_count_lines : List (List ℕ)
lf_count_lines =
    codes "static int64_t lf_count(int64_t a, int64_t b, int64_t s) {\n"
    ∷ codes "int64_t n = 0;\n"
    ∷ codes "if (s == 0) {\n"
    ∷ codes "lf_trap(6, (unsigned char *)\"ZeroStep\");\n"
    ∷ codes "}\n"
    ∷ codes "n = ((b - a) + s) / s;\n"
    ∷ codes "if (n < 0) {\n"
    ∷ codes "return 0;\n"
    ∷ codes "}\n"
    ∷ codes "return n;\n"
    ∷ codes "}\n"
    ∷ []

abbrev pub lf_at_lines : List (List ℕ)
lf_at_lines =
    codes "static int64_t lf_at(int64_t i, int64_t a, int64_t b) {\n"
    ∷ codes "if ((i < a) || (b < i)) {\n"
    ∷ codes "lf_trap(3, (unsigned char *)\"SubscriptOutOfRange\");\n"
    ∷ codes "}\n"
    ∷ codes "return i - a;\n"
    ∷ codes "}\n"
    ∷ []

abbrev pub lf_sec_lines : List (List ℕ)
lf_sec_lines =
    codes "static int64_t lf_sec(int64_t l, int64_t u, int64_t s, int64_t a, int64_t b) {\n"
    ∷ codes "int64_t n = 0;\n"
    ∷ codes "lf_at(l, -INT64_C(2147483648), 2147483647);\n"
    ∷ codes "lf_at(u, -INT64_C(2147483648), 2147483647);\n"
    ∷ codes "lf_at(s, -INT64_C(2147483648), 2147483647);\n"
    ∷ codes "n = lf_count(l, u, s);\n"
    ∷ codes "if (0 < n) {\n"
    ∷ codes "lf_at(l, a, b);\n"
    ∷ codes "lf_at(l + ((n - 1) * s), a, b);\n"
    ∷ codes "}\n"
    ∷ codes "return n;\n"
    ∷ codes "}\n"
    ∷ []

abbrev pub lf_same_lines : List (List ℕ)
lf_same_lines =
    codes "static void lf_same(int64_t a, int64_t b) {\n"
    ∷ codes "if (a != b) {\n"
    ∷ codes "lf_trap(5, (unsigned char *)\"ShapeMismatch\");\n"
    ∷ codes "}\n"
    ∷ codes "}\n"
    ∷ []

abbrev pub lf_need_lines : List (List ℕ)
lf_need_lines =
    codes "static void lf_need(int64_t a, int64_t b) {\n"
    ∷ codes "if (a < b) {\n"
    ∷ codes "lf_trap(4, (unsigned char *)\"SubstringOutOfRange\");\n"
    ∷ codes "}\n"
    ∷ codes "}\n"
    ∷ []

abbrev pub lf_part_lines : List (List ℕ)
lf_part_lines =
    codes "static int64_t lf_part(int64_t l, int64_t u, int64_t n) {\n"
    ∷ codes "if (u < l) {\n"
    ∷ codes "return 0;\n"
    ∷ codes "}\n"
    ∷ codes "lf_need(l, 1);\n"
    ∷ codes "lf_need(n, u);\n"
    ∷ codes "return (u - l) + 1;\n"
    ∷ codes "}\n"
    ∷ []

abbrev pub lf_join_lines : List (List ℕ)
lf_join_lines =
    codes "static int64_t lf_join(int64_t a, int64_t b) {\n"
    ∷ codes "if (65535 < (a + b)) {\n"
    ∷ codes "lf_trap(8, (unsigned char *)\"LengthLimit\");\n"
    ∷ codes "}\n"
    ∷ codes "return a + b;\n"
    ∷ codes "}\n"
    ∷ []

abbrev pub lf_code_lines : List (List ℕ)
lf_code_lines =
    codes "static int64_t lf_code(int64_t a) {\n"
    ∷ codes "if ((a < 0) || (255 < a)) {\n"
    ∷ codes "lf_trap(9, (unsigned char *)\"BadCharacterCode\");\n"
    ∷ codes "}\n"
    ∷ codes "return a;\n"
    ∷ codes "}\n"
    ∷ []

abbrev pub lf_copy_lines : List (List ℕ)
lf_copy_lines =
    codes "static void lf_copy(unsigned char *d, int64_t n, unsigned char *s, int64_t m) {\n"
    ∷ codes "int64_t i = 0;\n"
    ∷ codes "while (i < n) {\n"
    ∷ codes "if (i < m) {\n"
    ∷ codes "d[i] = s[i];\n"
    ∷ codes "} else {\n"
    ∷ codes "d[i] = 32;\n"
    ∷ codes "}\n"
    ∷ codes "i = i + 1;\n"
    ∷ codes "}\n"
    ∷ codes "}\n"
    ∷ []

abbrev pub lf_cmp_lines : List (List ℕ)
lf_cmp_lines =
    codes "static int64_t lf_cmp(unsigned char *a, int64_t n, unsigned char *b, int64_t m) {\n"
    ∷ codes "int64_t i = 0;\n"
    ∷ codes "int64_t x = 0;\n"
    ∷ codes "int64_t y = 0;\n"
    ∷ codes "while ((i < n) || (i < m)) {\n"
    ∷ codes "x = 32;\n"
    ∷ codes "y = 32;\n"
    ∷ codes "if (i < n) {\n"
    ∷ codes "x = a[i];\n"
    ∷ codes "}\n"
    ∷ codes "if (i < m) {\n"
    ∷ codes "y = b[i];\n"
    ∷ codes "}\n"
    ∷ codes "if (x != y) {\n"
    ∷ codes "return x - y;\n"
    ∷ codes "}\n"
    ∷ codes "i = i + 1;\n"
    ∷ codes "}\n"
    ∷ codes "return 0;\n"
    ∷ codes "}\n"
    ∷ []

abbrev pub lf_trim_lines : List (List ℕ)
lf_trim_lines =
    codes "static int64_t lf_trim(unsigned char *a, int64_t n) {\n"
    ∷ codes "while ((0 < n) && (a[n - 1] == 32)) {\n"
    ∷ codes "n = n - 1;\n"
    ∷ codes "}\n"
    ∷ codes "return n;\n"
    ∷ codes "}\n"
    ∷ []

abbrev pub lf_index_lines : List (List ℕ)
lf_index_lines =
    codes "static int64_t lf_index(unsigned char *a, int64_t n, unsigned char *b, int64_t m) {\n"
    ∷ codes "int64_t i = 0;\n"
    ∷ codes "int64_t j = 0;\n"
    ∷ codes "while (i <= (n - m)) {\n"
    ∷ codes "j = 0;\n"
    ∷ codes "while ((j < m) && (a[i + j] == b[j])) {\n"
    ∷ codes "j = j + 1;\n"
    ∷ codes "}\n"
    ∷ codes "if (j == m) {\n"
    ∷ codes "return i + 1;\n"
    ∷ codes "}\n"
    ∷ codes "i = i + 1;\n"
    ∷ codes "}\n"
    ∷ codes "return 0;\n"
    ∷ codes "}\n"
    ∷ []

abbrev pub lf_gap_lines : List (List ℕ)
lf_gap_lines =
    codes "static void lf_gap(int64_t *s, int64_t k) {\n"
    ∷ codes "if ((s[0] != 0) && ((s[0] != 2) || (k != 2))) {\n"
    ∷ codes "putchar(32);\n"
    ∷ codes "}\n"
    ∷ codes "s[0] = k;\n"
    ∷ codes "}\n"
    ∷ []

abbrev pub lf_int_lines : List (List ℕ)
lf_int_lines =
    codes "static void lf_int(int64_t a) {\n"
    ∷ codes "int64_t n = 0;\n"
    ∷ codes "int64_t d = 0;\n"
    ∷ codes "unsigned char b[20];\n"
    ∷ codes "if (a < 0) {\n"
    ∷ codes "putchar(45);\n"
    ∷ codes "}\n"
    ∷ codes "while ((n == 0) || (a != 0)) {\n"
    ∷ codes "d = a % 10;\n"
    ∷ codes "if (d < 0) {\n"
    ∷ codes "d = 0 - d;\n"
    ∷ codes "}\n"
    ∷ codes "b[n] = 48 + d;\n"
    ∷ codes "a = a / 10;\n"
    ∷ codes "n = n + 1;\n"
    ∷ codes "}\n"
    ∷ codes "while (0 < n) {\n"
    ∷ codes "n = n - 1;\n"
    ∷ codes "putchar(b[n]);\n"
    ∷ codes "}\n"
    ∷ codes "}\n"
    ∷ []

abbrev pub lf_chars_lines : List (List ℕ)
lf_chars_lines =
    codes "static void lf_chars(unsigned char *s, int64_t n) {\n"
    ∷ codes "int64_t i = 0;\n"
    ∷ codes "while (i < n) {\n"
    ∷ codes "putchar(s[i]);\n"
    ∷ codes "i = i + 1;\n"
    ∷ codes "}\n"
    ∷ codes "}\n"
    ∷ []

abbrev pub lf_read_lines : List (List ℕ)
lf_read_lines =
    codes "static int64_t lf_read(unsigned char *d, int64_t n) {\n"
    ∷ codes "int64_t i = 0;\n"
    ∷ codes "int64_t c = getchar();\n"
    ∷ codes "if (c < 0) {\n"
    ∷ codes "return -1;\n"
    ∷ codes "}\n"
    ∷ codes "while ((0 <= c) && (c != 10)) {\n"
    ∷ codes "if (i < n) {\n"
    ∷ codes "d[i] = c;\n"
    ∷ codes "}\n"
    ∷ codes "i = i + 1;\n"
    ∷ codes "c = getchar();\n"
    ∷ codes "}\n"
    ∷ codes "while (i < n) {\n"
    ∷ codes "d[i] = 32;\n"
    ∷ codes "i = i + 1;\n"
    ∷ codes "}\n"
    ∷ codes "return 0;\n"
    ∷ codes "}\n"
    ∷ []

abbrev pub lf_end_lines : List (List ℕ)
lf_end_lines =
    codes "static void lf_end(int64_t a) {\n"
    ∷ codes "if (a < 0) {\n"
    ∷ codes "lf_trap(7, (unsigned char *)\"EndOfFile\");\n"
    ∷ codes "}\n"
    ∷ codes "}\n"
    ∷ []

abbrev pub prelude_text : List ℕ
prelude_text = joined (map joined (header_lines ∷ location_lines ∷ lf_trap_lines ∷ lf_over_lines ∷ lf_zero_lines ∷ lf_fit_lines ∷ lf_add_lines ∷ lf_sub_lines ∷ lf_mul_lines ∷ lf_div_lines ∷ lf_mod_lines ∷ lf_modulo_lines ∷ lf_pow_lines ∷ lf_sign_lines ∷ lf_min_lines ∷ lf_max_lines ∷ lf_count_lines ∷ lf_at_lines ∷ lf_sec_lines ∷ lf_same_lines ∷ lf_need_lines ∷ lf_part_lines ∷ lf_join_lines ∷ lf_code_lines ∷ lf_copy_lines ∷ lf_cmp_lines ∷ lf_trim_lines ∷ lf_index_lines ∷ lf_gap_lines ∷ lf_int_lines ∷ lf_chars_lines ∷ lf_read_lines ∷ lf_end_lines ∷ []))
