-- The command that a list of words is: a verb, a number and the files.
use Rattle.std.specs.Prelude.{◌≡◌, ℕ, ◌-◌, Bool, true, false, List, [], ◌∷◌, length, drop, map, codes, bytes_eq, string_bytes, Option, Some, None, Result, Ok, Err, if◌then◌else◌, ◌==◌, ◌&&◌, not, nat_le}
use Rattle.std.specs.List.{list_all}
use Rattle.lf_driver.specs.declared.command.Verb.{Verb}
use Rattle.lf_driver.specs.declared.command.Verb.TheVariants.{Compile, Ast, Order}
use Rattle.lf_driver.specs.declared.command.Command.{Command}
use Rattle.lf_driver.specs.declared.command.Usage.{Usage}

abbrev pub begins_with_hyphen : List ℕ → Bool
begins_with_hyphen [] = false
begins_with_hyphen (byte ∷ bytes) = byte == 45

abbrev pub ends_as_source : List ℕ → Bool
ends_as_source word = bytes_eq (drop (length word - 4) word) (codes ".f90")

-- the name of a source: it ends in `.f90`, does not begin with `-` and has 4 to 255 bytes
abbrev pub is_source_name : List ℕ → Bool
is_source_name word = nat_le 4 (length word) && nat_le (length word) 255 && not (begins_with_hyphen word) && ends_as_source word

abbrev pub CommandText : Type 0
CommandText = Verb × ℕ × List (List ℕ)

abbrev pub verb_of : List ℕ → Option Verb
verb_of word = if bytes_eq word (codes "compile") then Some Compile else if bytes_eq word (codes "ast") then Some Ast else if bytes_eq word (codes "order") then Some Order else None

-- whether a verb takes so many files
abbrev pub takes_files : Verb → ℕ → Bool
takes_files Compile count = count == 1
takes_files Ast count = count == 1
takes_files Order count = nat_le 1 count

abbrev pub with_files : Option Verb → List (List ℕ) → Option CommandText
with_files None files = None
with_files (Some verb) files = if takes_files verb (length files) && list_all is_source_name files then Some (verb, 0, files) else None

-- `compile` or `ast` with one source, or `order` with one or more; every other list of words is no command
abbrev pub words_of : List (List ℕ) → Option CommandText
words_of [] = None
words_of (verb ∷ files) = with_files (verb_of verb) files

-- a command as its texts
abbrev pub text_of : Command → CommandText
text_of command = (command.verb, command.number, map string_bytes command.files.now)

-- The command that was answered is this one, or there is none.
abbrev pub CommandGives : Result Command Usage → Option CommandText → Type 0
CommandGives (Ok command) there = there ≡ Some (text_of command)
CommandGives (Err usage) there = there ≡ None

-- What was answered is what the words are.
abbrev pub WordsGive : Result Command Usage → List (List ℕ) → Type 0
WordsGive result words = CommandGives result (words_of words)

-- whether a command prints: the tree of a source, or an order
abbrev pub shown_by : Verb → Bool
shown_by Compile = false
shown_by Ast = true
shown_by Order = true

abbrev pub shows : Option CommandText → Bool
shows None = false
shows (Some command) = shown_by command.0
