-- A construct that ends is a part of the block around it.
use Rattle.std.proofs.Common.{◌≡◌, ℕ, suc, ◌<◌, Bool, true, false, List, [], ◌∷◌, ◌++◌, refl, sym, ap}
use Rattle.ast_nodes.specs.declared.statement.Statement.{Statement}
use Rattle.ast_nodes.specs.declared.statement.Statement.TheVariants as statement
use Rattle.ff_forms.specs.declared.form.End.{End}
use Rattle.ff_forms.specs.declared.form.End.TheVariants as end
use Rattle.ff_parser.specs.Pieces.{agrees, arm}
use Rattle.ff_parser.specs.Allowed.{closes_construct, has_block}
use Rattle.ff_parser.specs.Taken.{statement_of, with_open}
use Rattle.ff_parser.specs.Grammar.{Block, nothing, counted, looped, conditional, selected, Arms, if_then, else_if, otherwise, Choices, select, case, Last, last_form, block_forms, block_tree, arms_tree, choices_tree, greatest_nesting, first_of_arms, first_of_choices, IsBlock}
use Rattle.ff_parser.proofs.States.{Front, in_counted, in_looped, in_arms, in_choices, front_forms, front_parts, front_name, closed_arms, arm_line, arm_condition, closed_cases, open_label, spot_level, IsFront, StandsBehind, Takes}

pub untrue : false ≡ true → ⊥
untrue h = cc

-- the words of an end
abbrev pub front_words : Front → End
front_words (in_counted head) = end.Do
front_words (in_looped head) = end.Do
front_words (in_arms arms) = end.If
front_words (in_choices choices) = end.Select

abbrev pub closing : Front → Block → Block → Last → Block
closing (in_counted head) before inner last = counted before head inner last
closing (in_looped head) before inner last = looped before head inner last
closing (in_arms arms) before inner last = conditional before arms inner last
closing (in_choices choices) before inner last = selected before choices inner last

pub closing_forms : (f : Front) (before inner : Block) (last : Last) → block_forms (closing f before inner last) ≡ block_forms before ++ (front_forms f ++ (block_forms inner ++ last_form last ∷ []))
closing_forms (in_counted head) before inner last = refl
closing_forms (in_looped head) before inner last = refl
closing_forms (in_arms arms) before inner last = refl
closing_forms (in_choices choices) before inner last = refl

pub arms_split : (arms : Arms) (stmts : List Statement) → closed_arms arms ++ arm (arm_line arms) (arm_condition arms) stmts ∷ [] ≡ arms_tree arms stmts
arms_split (if_then head) stmts = refl
arms_split (else_if arms block line said condition) stmts = refl
arms_split (otherwise arms block line said) stmts = refl

pub choices_split : (choices : Choices) (stmts : List Statement) → with_open (closed_cases choices) (open_label choices) stmts ≡ choices_tree choices stmts
choices_split (select head) stmts = refl
choices_split (case choices block label) stmts = refl

pub closing_tree : (f : Front) (before inner : Block) (last : Last) → block_tree (closing f before inner last) ≡ block_tree before ++ statement_of (spot_level (record { front = f; block = inner })) ∷ []
closing_tree (in_counted head) before inner last = refl
closing_tree (in_looped head) before inner last = refl
closing_tree (in_arms arms) before inner last =
    ap (λ all. block_tree before ++ statement.If (first_of_arms arms).line (first_of_arms arms).construct all ∷ []) (sym (arms_split arms (block_tree inner)))
closing_tree (in_choices choices) before inner last =
    ap (λ all. block_tree before ++ statement.Select (first_of_choices choices).line (first_of_choices choices).construct (first_of_choices choices).value all ∷ []) (sym (choices_split choices (block_tree inner)))

-- The words of its end are those of its beginning.
pub words_of : (f : Front) (words : End) → closes_construct (front_parts f) words ≡ true → words ≡ front_words f
words_of (in_counted head) end.Do h = refl
words_of (in_looped head) end.Do h = refl
words_of (in_arms arms) end.If h = refl
words_of (in_choices choices) end.Select h = refl
words_of (in_counted head) _ h = absurd (untrue h)
words_of (in_looped head) _ h = absurd (untrue h)
words_of (in_arms arms) _ h = absurd (untrue h)
words_of (in_choices choices) _ h = absurd (untrue h)

pub closes_it : (f : Front) → closes_construct (front_parts f) (front_words f) ≡ true
closes_it (in_counted head) = refl
closes_it (in_looped head) = refl
closes_it (in_arms arms) = refl
closes_it (in_choices choices) = refl

pub closing_right : (f : Front) (before inner : Block) (last : Last) (returns : Bool) (depth : ℕ) → IsBlock returns depth before → depth < greatest_nesting → IsFront returns (suc depth) f → IsBlock returns (suc depth) inner → StandsBehind f inner → last.words ≡ front_words f → agrees last.name (front_name f) ≡ true → IsBlock returns depth (closing f before inner last)
closing_right (in_counted head) before inner last returns depth b d f i s w n = (b, d, i, (w, n))
closing_right (in_looped head) before inner last returns depth b d f i s w n = (b, d, i, (w, n))
closing_right (in_arms arms) before inner last returns depth b d f i s w n = (b, d, f, i, (w, n))
closing_right (in_choices choices) before inner last returns depth b d f i s w n = (b, d, f, s, i, (w, n))

pub takes : (f : Front) → has_block (front_parts f) ≡ true → Takes f
takes (in_counted head) h = tt
takes (in_looped head) h = tt
takes (in_arms arms) h = tt
takes (in_choices (select head)) h = absurd (untrue h)
takes (in_choices (case choices block label)) h = tt

pub takes_back : (f : Front) → Takes f → has_block (front_parts f) ≡ true
takes_back (in_counted head) h = refl
takes_back (in_looped head) h = refl
takes_back (in_arms arms) h = refl
takes_back (in_choices (select head)) h = absurd h
takes_back (in_choices (case choices block label)) h = refl

pub stands : (f : Front) (block : Block) → Takes f → StandsBehind f block
stands (in_counted head) block h = tt
stands (in_looped head) block h = tt
stands (in_arms arms) block h = tt
stands (in_choices (select head)) block h = absurd h
stands (in_choices (case choices behind label)) block h = tt

pub stands_first : (f : Front) → StandsBehind f nothing
stands_first (in_counted head) = tt
stands_first (in_looped head) = tt
stands_first (in_arms arms) = tt
stands_first (in_choices (select head)) = tt
stands_first (in_choices (case choices behind label)) = tt
