-- Which files are of the profile, and the bytes that spell one: each begins with the prelude.
use Rattle.std.specs.Prelude.{ℕ, List, ◌++◌}
use Rattle.c_nodes.specs.declared.tree.CItem.{CItem}
use Rattle.c_nodes.specs.declared.tree.CFile.{CFile}
use Rattle.c_nodes.specs.Grammar.{IsGrammaticalBehind, SpellsBehind}
use Rattle.c_prelude.specs.Prelude.{prelude_items}

-- the prelude, and items behind it
abbrev pub file_with : List CItem → CFile
file_with rest = record { items = prelude_items ++ rest }

abbrev pub IsGrammatical : CFile → Type 0
IsGrammatical = IsGrammaticalBehind prelude_items

abbrev pub Spells : List ℕ → CFile → Type 0
Spells = SpellsBehind prelude_items
