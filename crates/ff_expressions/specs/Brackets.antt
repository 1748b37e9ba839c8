-- Which tokens spell which items: a token by itself, or the tokens between two brackets that match.
use Rattle.std.specs.Prelude.{◌≡◌, ◌↔◌, ℕ, List, [], ◌∷◌, ◌++◌, Option, Some, None}
use Rattle.ff_lexer.specs.declared.token.Kind.{Kind}
use Rattle.ff_lexer.specs.declared.token.Kind.TheVariants as kind
use Rattle.ff_lexer.specs.Statements.{Spelled}
use Rattle.ff_expressions.specs.declared.item.Bracket.{Bracket}
use Rattle.ff_expressions.specs.declared.item.Part.{Part}
use Rattle.ff_expressions.specs.declared.item.Item.{Item}
use Rattle.ff_expressions.specs.declared.item.Item.TheVariants as item
use Rattle.ff_expressions.specs.declared.sign.Sign.{Sign}
use Rattle.ff_expressions.specs.declared.sign.Sign.TheVariants as sign
use Rattle.ff_expressions.specs.Signs.{sign_of, text_value}
use Rattle.ff_expressions.specs.Items.{number_of, parts_of, items_of}

-- what a token is by itself
abbrev pub single_in : Option Sign → Option Item
single_in None = None
single_in (Some (sign.Mark mark)) = Some (item.Mark mark)
single_in (Some (sign.Truth value)) = Some (item.Truth value)
single_in (Some (sign.Opening bracket)) = None
single_in (Some (sign.Closing bracket)) = None

abbrev pub single : Kind → List ℕ → Option Item
single kind.Word bytes = Some (item.Word bytes)
single kind.Number bytes = Some (number_of bytes)
single kind.Text bytes = Some (item.Text (text_value bytes))
single kind.Mark bytes = single_in (sign_of bytes)

pub record Opens (token : Spelled) (bracket : Bracket) : Type 0 where
  pub mark : token.0 ≡ kind.Mark
  pub sign : sign_of token.1 ≡ Some (sign.Opening bracket)

pub record Closes (token : Spelled) (bracket : Bracket) : Type 0 where
  pub mark : token.0 ≡ kind.Mark
  pub sign : sign_of token.1 ≡ Some (sign.Closing bracket)

pub data Spells : List Spelled → List Item → Type 0 where
  Nothing : Spells [] []
  Single : (token : Spelled) (tokens : List Spelled) (one : Item) (items : List Item) →
      single token.0 token.1 ≡ Some one → Spells tokens items → Spells (token ∷ tokens) (one ∷ items)
  Grouped : (opening closing : Spelled) (bracket : Bracket) (inner tokens : List Spelled) (within items : List Item) (parts : List Part) →
      Opens opening bracket → Closes closing bracket → Spells inner within → parts_of within ≡ Some parts → Spells tokens items →
      Spells (opening ∷ (inner ++ closing ∷ tokens)) (item.Group bracket parts ∷ items)

-- The items of a statement are those that its tokens spell.
abbrev pub ItemsAreSpelled : Type 0
ItemsAreSpelled = (tokens : List Spelled) (items : List Item) → Spells tokens items ↔ (items_of tokens ≡ Some items)
