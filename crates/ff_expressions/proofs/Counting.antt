-- The depths that are kept beside the trees are those of the trees.
use Rattle.std.proofs.Common.{◌≡◌, ℕ, ◌+◌, ◌<◌, ◌≤◌, max, Bool, true, false, List, [], ◌∷◌, ◌++◌, map, Option, Some, None, refl, sym, ap, ◌∙◌, arith}
use Rattle.std.specs.Prelude.{if◌then◌else◌, nat_lt, ◌&&◌}
use Rattle.std.proofs.lemmas.Bool.Decides.{nat_tests}
use Rattle.ast_nodes.specs.declared.expression.Expr.{Expr}
use Rattle.ast_nodes.specs.declared.expression.Expr.TheVariants as expr
use Rattle.ast_nodes.specs.declared.expression.Expr.TheOpen.{Expr-F, RefPart-F}
use Rattle.ast_nodes.specs.declared.expression.Expr.TheFolds.{fold-RefPart, fold-Designator, fold-roll-Expr, fold-roll-RefPart, fold-roll-Designator}
use Rattle.ast_nodes.specs.declared.expression.RefPart.{RefPart}
use Rattle.ast_nodes.specs.declared.expression.RefPart.TheVariants as ref
use Rattle.ast_nodes.specs.declared.expression.Designator.{Designator}
use Rattle.ff_expressions.specs.declared.item.Parsed.{Parsed}
use Rattle.ff_expressions.specs.declared.item.Reference.{Reference}
use Rattle.ff_expressions.specs.declared.group.Arguments.{Arguments}
use Rattle.ff_expressions.specs.Trees.{stub, leaf, node, unary, binary, paren, depth_in, tree_in, triple, no_arguments, with_argument, array, implied_do, no_designator, nothing_named, with_part, with_name, with_group, as_expression}
use Rattle.ff_expressions.specs.Depths.{greatest, expr_layer, part_layer, designator_layer, depth_of, Counted}

-- the depth at each kind of node

abbrev depth_of_part : RefPart → ℕ
depth_of_part = fold-RefPart ℕ ℕ ℕ expr_layer part_layer designator_layer

abbrev depth_of_parts : Designator → ℕ
depth_of_parts = fold-Designator ℕ ℕ ℕ expr_layer part_layer designator_layer

pub depth-Int : (digits : List ℕ) (suffix : ℕ) → depth_of (expr.Int digits suffix) ≡ 1
depth-Int digits suffix = ap depth_of (sym (expr.rolls-Int digits suffix)) ∙ fold-roll-Expr ℕ ℕ ℕ expr_layer part_layer designator_layer (Expr-F.Int digits suffix)

pub depth-Log : (value : ℕ) → depth_of (expr.Log value) ≡ 1
depth-Log value = ap depth_of (sym (expr.rolls-Log value)) ∙ fold-roll-Expr ℕ ℕ ℕ expr_layer part_layer designator_layer (Expr-F.Log value)

pub depth-Char : (bytes : List ℕ) → depth_of (expr.Char bytes) ≡ 1
depth-Char bytes = ap depth_of (sym (expr.rolls-Char bytes)) ∙ fold-roll-Expr ℕ ℕ ℕ expr_layer part_layer designator_layer (Expr-F.Char bytes)

depth-parts : (parts : List RefPart) → depth_of_parts (record { parts = parts }) ≡ greatest (map depth_of_part parts)
depth-parts parts = fold-roll-Designator ℕ ℕ ℕ expr_layer part_layer designator_layer (record { parts = parts })

depth-Ref : (parts : List RefPart) → depth_of (expr.Ref (record { parts = parts })) ≡ greatest (map depth_of_part parts) + 1
depth-Ref parts =
    ap depth_of (sym (expr.rolls-Ref (record { parts = parts })))
    ∙ fold-roll-Expr ℕ ℕ ℕ expr_layer part_layer designator_layer (Expr-F.Ref (record { parts = parts }))
    ∙ ap (λ t. t + 1) (depth-parts parts)

depth-Part : (name : List ℕ) → depth_of_part (ref.Part name) ≡ 1
depth-Part name = ap depth_of_part (sym (ref.rolls-Part name)) ∙ fold-roll-RefPart ℕ ℕ ℕ expr_layer part_layer designator_layer (RefPart-F.Part name)

depth-Group : (arguments : List Expr) → depth_of_part (ref.Group arguments) ≡ greatest (map depth_of arguments) + 1
depth-Group arguments = ap depth_of_part (sym (ref.rolls-Group arguments)) ∙ fold-roll-RefPart ℕ ℕ ℕ expr_layer part_layer designator_layer (RefPart-F.Group arguments)

depth-Unary : (operator : ℕ) (operand : Expr) → depth_of (expr.Unary operator operand) ≡ depth_of operand + 1
depth-Unary operator operand = ap depth_of (sym (expr.rolls-Unary operator operand)) ∙ fold-roll-Expr ℕ ℕ ℕ expr_layer part_layer designator_layer (Expr-F.Unary operator operand)

depth-Binary : (operator : ℕ) (left right : Expr) → depth_of (expr.Binary operator left right) ≡ max (depth_of left) (depth_of right) + 1
depth-Binary operator left right = ap depth_of (sym (expr.rolls-Binary operator left right)) ∙ fold-roll-Expr ℕ ℕ ℕ expr_layer part_layer designator_layer (Expr-F.Binary operator left right)

depth-Paren : (inner : Expr) → depth_of (expr.Paren inner) ≡ depth_of inner + 1
depth-Paren inner = ap depth_of (sym (expr.rolls-Paren inner)) ∙ fold-roll-Expr ℕ ℕ ℕ expr_layer part_layer designator_layer (Expr-F.Paren inner)

depth-Array : (items : List Expr) → depth_of (expr.Array items) ≡ greatest (map depth_of items) + 1
depth-Array items = ap depth_of (sym (expr.rolls-Array items)) ∙ fold-roll-Expr ℕ ℕ ℕ expr_layer part_layer designator_layer (Expr-F.Array items)

abbrev or_depth : Option Expr → ℕ
or_depth None = 0
or_depth (Some tree) = depth_of tree

depth-Triple : (lower upper step : Option Expr) → depth_of (expr.Triple lower upper step) ≡ max (or_depth lower) (max (or_depth upper) (or_depth step)) + 1
depth-Triple None None None = ap depth_of (sym (expr.rolls-Triple None None None)) ∙ fold-roll-Expr ℕ ℕ ℕ expr_layer part_layer designator_layer (Expr-F.Triple None None None)
depth-Triple None None (Some s) = ap depth_of (sym (expr.rolls-Triple None None (Some s))) ∙ fold-roll-Expr ℕ ℕ ℕ expr_layer part_layer designator_layer (Expr-F.Triple None None (Some s))
depth-Triple None (Some u) None = ap depth_of (sym (expr.rolls-Triple None (Some u) None)) ∙ fold-roll-Expr ℕ ℕ ℕ expr_layer part_layer designator_layer (Expr-F.Triple None (Some u) None)
depth-Triple None (Some u) (Some s) = ap depth_of (sym (expr.rolls-Triple None (Some u) (Some s))) ∙ fold-roll-Expr ℕ ℕ ℕ expr_layer part_layer designator_layer (Expr-F.Triple None (Some u) (Some s))
depth-Triple (Some l) None None = ap depth_of (sym (expr.rolls-Triple (Some l) None None)) ∙ fold-roll-Expr ℕ ℕ ℕ expr_layer part_layer designator_layer (Expr-F.Triple (Some l) None None)
depth-Triple (Some l) None (Some s) = ap depth_of (sym (expr.rolls-Triple (Some l) None (Some s))) ∙ fold-roll-Expr ℕ ℕ ℕ expr_layer part_layer designator_layer (Expr-F.Triple (Some l) None (Some s))
depth-Triple (Some l) (Some u) None = ap depth_of (sym (expr.rolls-Triple (Some l) (Some u) None)) ∙ fold-roll-Expr ℕ ℕ ℕ expr_layer part_layer designator_layer (Expr-F.Triple (Some l) (Some u) None)
depth-Triple (Some l) (Some u) (Some s) = ap depth_of (sym (expr.rolls-Triple (Some l) (Some u) (Some s))) ∙ fold-roll-Expr ℕ ℕ ℕ expr_layer part_layer designator_layer (Expr-F.Triple (Some l) (Some u) (Some s))

depth-Loop : (variable : List ℕ) (lower upper : Expr) (step : Option Expr) (items : List Expr) →
    depth_of (expr.Loop variable lower upper step items) ≡ max (max (depth_of lower) (depth_of upper)) (max (or_depth step) (greatest (map depth_of items))) + 1
depth-Loop variable lower upper None items = ap depth_of (sym (expr.rolls-Loop variable lower upper None items)) ∙ fold-roll-Expr ℕ ℕ ℕ expr_layer part_layer designator_layer (Expr-F.Loop variable lower upper None items)
depth-Loop variable lower upper (Some s) items = ap depth_of (sym (expr.rolls-Loop variable lower upper (Some s) items)) ∙ fold-roll-Expr ℕ ℕ ℕ expr_layer part_layer designator_layer (Expr-F.Loop variable lower upper (Some s) items)

-- nodes over parts whose depths are counted

below : (a n : ℕ) → nat_lt a n ≡ true → a < n
below a n e = grind (arith, nat_tests)

counted_node : (deepest : ℕ) (tree : Expr) → (deepest < 256 → depth_of tree ≡ deepest + 1) → Counted (node deepest tree)
counted_node deepest tree k = by_test (nat_lt deepest 256) refl
  where
    by_test : (t : Bool) → nat_lt deepest 256 ≡ t → Counted (if t then record { tree = tree; depth = deepest + 1 } else stub)
    by_test true e = record { count = λ h. k (below deepest 256 e) }
    by_test false e = record { count = λ h. absurd (omega (arith, h)) }

pub counted_leaf : (tree : Expr) → depth_of tree ≡ 1 → Counted (leaf tree)
counted_leaf tree e = record { count = λ h. e }

pub counted_unary : (operator : ℕ) (p : Parsed) → Counted p → Counted (unary operator p)
counted_unary operator p c = counted_node p.depth _ (λ h. depth-Unary operator p.tree ∙ ap (λ t. t + 1) (c.count (omega (arith, h))))

pub counted_paren : (p : Parsed) → Counted p → Counted (paren p)
counted_paren p c = counted_node p.depth _ (λ h. depth-Paren p.tree ∙ ap (λ t. t + 1) (c.count (omega (arith, h))))

pub counted_binary : (operator : ℕ) (p q : Parsed) → Counted p → Counted q → Counted (binary operator p q)
counted_binary operator p q c d =
    counted_node (max p.depth q.depth) _ (λ h. depth-Binary operator p.tree q.tree ∙ ap (λ t. max t (depth_of q.tree) + 1) (c.count (omega (arith, h))) ∙ ap (λ t. max p.depth t + 1) (d.count (omega (arith, h))))

abbrev pub CountedIn : Option Parsed → Type 0
CountedIn None = Unit {0}
CountedIn (Some value) = Counted value

counted_in : (o : Option Parsed) → CountedIn o → depth_in o ≤ 256 → or_depth (tree_in o) ≡ depth_in o
counted_in None c h = refl
counted_in (Some value) c h = c.count h

pub counted_triple : (lower upper step : Option Parsed) → CountedIn lower → CountedIn upper → CountedIn step → Counted (triple lower upper step)
counted_triple lower upper step c d e =
    counted_node _ _ (λ h.
    depth-Triple (tree_in lower) (tree_in upper) (tree_in step)
    ∙ ap (λ t. max t (max (or_depth (tree_in upper)) (or_depth (tree_in step))) + 1) (counted_in lower c (omega (arith, h)))
    ∙ ap (λ t. max (depth_in lower) (max t (or_depth (tree_in step))) + 1) (counted_in upper d (omega (arith, h)))
    ∙ ap (λ t. max (depth_in lower) (max (depth_in upper) t) + 1) (counted_in step e (omega (arith, h))))

-- trees side by side

pub record CountedAll (arguments : Arguments) : Type 0 where
  pub count : arguments.depth ≤ 256 → greatest (map depth_of arguments.list) ≡ arguments.depth

greatest_more : (depths : List ℕ) (depth : ℕ) → greatest (depths ++ depth ∷ []) ≡ max (greatest depths) depth
greatest_more [] depth = omega arith
greatest_more (d ∷ depths) depth = ap (max d) (greatest_more depths depth) ∙ (let e : max d (max (greatest depths) depth) ≡ max (max d (greatest depths)) depth = omega arith in e)

map_more : {A : Type 0} → (f : A → ℕ) (xs : List A) (x : A) → map f (xs ++ x ∷ []) ≡ map f xs ++ f x ∷ []
map_more f [] x = refl
map_more f (y ∷ xs) x = ap (λ t. f y ∷ t) (map_more f xs x)

pub counted_none : CountedAll no_arguments
counted_none = record { count = λ h. refl }

pub counted_more : (a : Arguments) (p : Parsed) → CountedAll a → Counted p → CountedAll (with_argument a p)
counted_more a p c d = record {
  count = λ h.
      ap greatest (map_more depth_of a.list p.tree) ∙ greatest_more (map depth_of a.list) (depth_of p.tree)
      ∙ ap (λ t. max t (depth_of p.tree)) (c.count (omega (arith, h))) ∙ ap (max a.depth) (d.count (omega (arith, h)));
}

pub counted_array : (a : Arguments) → CountedAll a → Counted (array a)
counted_array a c = counted_node a.depth _ (λ h. depth-Array a.list ∙ ap (λ t. t + 1) (c.count (omega (arith, h))))

pub counted_loop : (variable : List ℕ) (lower upper : Parsed) (step : Option Parsed) (items : Arguments) → Counted lower → Counted upper → CountedIn step → CountedAll items → Counted (implied_do variable lower upper step items)
counted_loop variable lower upper step items c d e f =
    counted_node _ _ (λ h.
    depth-Loop variable lower.tree upper.tree (tree_in step) items.list
    ∙ ap (λ t. max (max t (depth_of upper.tree)) (max (or_depth (tree_in step)) (greatest (map depth_of items.list))) + 1) (c.count (omega (arith, h)))
    ∙ ap (λ t. max (max lower.depth t) (max (or_depth (tree_in step)) (greatest (map depth_of items.list))) + 1) (d.count (omega (arith, h)))
    ∙ ap (λ t. max (max lower.depth upper.depth) (max t (greatest (map depth_of items.list))) + 1) (counted_in step e (omega (arith, h)))
    ∙ ap (λ t. max (max lower.depth upper.depth) (max (depth_in step) t) + 1) (f.count (omega (arith, h))))

-- designators: as soon as there is a part, the depth is one more than the parts'

pub record CountedRef (due : Bool) (reference : Reference) : Type 0 where
  pub count : reference.depth ≤ 256 → max reference.depth 1 ≡ greatest (map depth_of_part reference.designator.parts) + 1
  pub named : due ≡ false → 1 ≤ reference.depth

counted_part : (due next : Bool) (before : Reference) (part : RefPart) (deepest : ℕ) → CountedRef due before → (deepest < 255 → depth_of_part part ≡ deepest + 1) → CountedRef next (with_part before part deepest)
counted_part due next before part deepest c k = by_test (nat_lt before.depth 257 && nat_lt deepest 255) refl
  where
    by_test : (t : Bool) → (nat_lt before.depth 257 && nat_lt deepest 255) ≡ t → CountedRef next (if t then record { designator = record { parts = before.designator.parts ++ part ∷ [] }; depth = max before.depth (deepest + 2) } else no_designator)
    by_test true e =
        let h : deepest < 255 = grind (arith, nat_tests) in
        record {
          count = λ g.
              let i : max before.depth 1 ≡ greatest (map depth_of_part before.designator.parts) + 1 = c.count (omega (arith, g)) in
              let j : depth_of_part part ≡ deepest + 1 = k h in
              let m : greatest (map depth_of_part (before.designator.parts ++ part ∷ [])) ≡ max (greatest (map depth_of_part before.designator.parts)) (depth_of_part part) =
              ap greatest (map_more depth_of_part before.designator.parts part) ∙ greatest_more (map depth_of_part before.designator.parts) (depth_of_part part)
              in omega arith;
          named = λ d. omega arith;
        }
    by_test false e = record { count = λ g. absurd (omega (arith, g)); named = λ d. omega arith }

pub counted_name : (due next : Bool) (before : Reference) (name : List ℕ) → CountedRef due before → CountedRef next (with_name before name)
counted_name due next before name c = counted_part due next before (ref.Part name) 0 c (λ h. depth-Part name)

pub counted_group : (due next : Bool) (before : Reference) (group : Arguments) → CountedRef due before → CountedAll group → CountedRef next (with_group before group)
counted_group due next before group c d =
    counted_part due next before (ref.Group group.list) group.depth c (λ h. depth-Group group.list ∙ ap (λ t. t + 1) (d.count (omega (arith, h))))

pub counted_nothing : CountedRef true nothing_named
counted_nothing = record { count = λ h. refl; named = λ d. cc }

pub counted_whole : (reference : Reference) → CountedRef false reference → Counted (as_expression reference)
counted_whole reference c = record {
  count = λ h.
      let i : max reference.depth 1 ≡ greatest (map depth_of_part reference.designator.parts) + 1 = c.count h in
      let j : 1 ≤ reference.depth = c.named refl in
      depth-Ref reference.designator.parts ∙ (let k : greatest (map depth_of_part reference.designator.parts) + 1 ≡ reference.depth = omega arith in k);
}
