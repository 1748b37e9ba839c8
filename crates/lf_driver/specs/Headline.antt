-- What the C that is written means: each C file is in the grammar, and where the sources hold one main program, the C
-- files are one program, which for every input ends as the sources do, with their output, their status and their named
-- trap, within stated bounds both ways, and is never undefined.
use Rattle.std.specs.Prelude.{◌≡◌, ℕ, Bool, List, [], ◌∷◌, map, Option, Some, None, Ok, if◌then◌else◌, bytes_eq}
use Rattle.std.specs.List.{list_any, AllByRecursion as Each}
use Rattle.std.specs.FinMap.{get}
use Rattle.lf_base.specs.Files.{Files}
use Rattle.lf_base.specs.Near.{Agree}
use Rattle.ast_nodes.specs.declared.file.File.{File}
use Rattle.c_nodes.specs.declared.tree.CFile.{CFile}
use Rattle.c_semantics.specs.CMeaning.{CMeaning}
use Rattle.c_prelude.specs.PreludeFile.{Spells}
use Rattle.c_semantics.specs.Program.{IsProgram}
use Rattle.ff_lexer.specs.Statements.{Spelled}
use Rattle.ff_lexer.specs.Told.{StatementsOf}
use Rattle.ff_parser.specs.Files.{IsFile}
use Rattle.lf_driver.specs.Answers.{Answered, IsSaid, IsExact, IsCounted}
use Rattle.lf_driver.specs.Call.{Call}
use Rattle.lf_driver.specs.OnePrint.Built.{program_in}
use Rattle.lf_driver.specs.OnePrint.Lowered.{c_file}
use Rattle.lf_driver.specs.OnePrint.Source.{Source}
use Rattle.lf_driver.specs.OnePrint.Programs.{meaning_of}
use Rattle.lf_driver.specs.Verdict.{c_name}
use Rattle.lf_driver.specs.Words.{words_of}
use Rattle.lf_driver.specs.declared.command.Verb.TheVariants.{Compile}

-- a source by its name, with its tree and with what is built of it
pub record Listed : Type 0 where
  pub name : List ℕ
  pub tree : File
  pub built : Option Source

-- The text of the name among the files has these statements, they are this file, and this is built of it.
pub record IsListed (files : Files) (name : List ℕ) (listed : Listed) : Type 0 where
  pub is : listed.name ≡ name
  pub text : List ℕ
  pub statements : List (ℕ × List Spelled)
  pub there : get files name ≡ Some text
  pub read : StatementsOf text statements
  pub parsed : IsFile statements listed.tree
  pub built : program_in listed.tree ≡ Ok listed.built

abbrev pub AreListed : Files → List (List ℕ) → List Listed → Type 0
AreListed files [] [] = Unit {0}
AreListed files [] (listed ∷ sources) = ⊥
AreListed files (name ∷ names) [] = ⊥
AreListed files (name ∷ names) (listed ∷ sources) = IsListed files name listed × AreListed files names sources

-- a C file under its name
pub record Named : Type 0 where
  pub name : List ℕ
  pub file : CFile

abbrev pub c_of : Listed → Named
c_of listed = record { name = c_name listed.name; file = c_file listed.name listed.built }

abbrev pub has_name : List ℕ → Named → Bool
has_name name named = bytes_eq name named.name

-- each name once: of two files of one name the later counts
abbrev pub once : List Named → List Named
once [] = []
once (named ∷ more) = if list_any (has_name named.name) more then once more else named ∷ once more

-- the C files of sources
abbrev pub c_files : List Listed → List Named
c_files sources = once (map c_of sources)

-- The bytes under the name are those of the C file, in its one spelling.
abbrev pub IsSpelled : Files → Named → Type 0
IsSpelled files named = (bytes : List ℕ) × (get files named.name ≡ Some bytes) × Spells bytes named.file

-- the main programs among sources, each with the name of its source
abbrev pub with_program : List ℕ → Option Source → List (List ℕ × Source) → List (List ℕ × Source)
with_program name None more = more
with_program name (Some source) more = (name, source) ∷ more

abbrev pub programs : List Listed → List (List ℕ × Source)
programs [] = []
programs (listed ∷ sources) = with_program listed.name listed.built (programs sources)

-- The sources hold one main program.
abbrev pub HaveOneProgram : List Listed → Type 0
HaveOneProgram sources = (program : List ℕ × Source) × (programs sources ≡ program ∷ [])

-- Then their C files are one program, and it agrees with them.
pub record IsFaithful (sources : List Listed) : Type 0 where
  pub linked : HaveOneProgram sources → IsProgram (map (λ n. n.file) (c_files sources))
  pub agrees : HaveOneProgram sources → Agree (meaning_of (programs sources)) (CMeaning (map (λ n. n.file) (c_files sources)))

-- What a call leaves for sources that its words compile.
pub record Means (c : Call) (files : Files) (names : List (List ℕ)) : Type 0 where
  pub sources : List Listed
  pub listed : AreListed files names sources
  pub left : Files
  pub is_left : c.store'.files ≡ Some left
  pub spelled : Each (IsSpelled left) (c_files sources)
  pub faithful : IsFaithful sources

-- It is so at status 0, where the store tells its files.
abbrev pub KeepsMeaning : ℕ → Call → Type 0
KeepsMeaning status c = status ≡ 0 → (files : Files) → c.store.files ≡ Some files → (names : List (List ℕ)) → words_of c.words ≡ Some (Compile, 0, names) → Means c files names

-- What the top call promises.
pub record Promises (status : ℕ) (c : Call) : Type 0 where
  pub answered : Answered status c
  pub said : IsSaid status c
  pub exact : IsExact status c
  pub counted : IsCounted status c
  pub meaning : KeepsMeaning status c
