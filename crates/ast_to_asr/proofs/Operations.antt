-- Operations of two operands.
use Rattle.std.proofs.Common.{◌≡◌, ℕ, Bool, true, ◌&&◌, is_some, [], ◌∷◌, Some, None, Ok, Err, sym, ap, ◌∙◌}
use Rattle.std.specs.Prelude.{Result, Option, option_map}
use Rattle.lf_base.specs.Operators.{operator_of}
use Rattle.lf_base.specs.declared.operator.Operator.{Operator}
use Rattle.lf_base.specs.declared.rule.Rule.TheVariants.{E202, E401}
use Rattle.fortran_semantics.specs.Declared as declared
use Rattle.lf_base.specs.declared.fault.Memory.{Memory}
use Rattle.asr_nodes.specs.Keys.{Key}
use Rattle.asr_nodes.specs.Nodes.{Nodes, Extends, there}
use Rattle.asr_nodes.specs.declared.node.Expr.TheVariants.{Binary}
use Rattle.asr_nodes.specs.declared.tree.ExprTree.TheVariants as tree
use Rattle.asr_nodes.proofs.Callers.{there_still}
use Rattle.ast_to_asr.specs.declared.build.Built.{Built}
use Rattle.ast_to_asr.specs.declared.names.ScalarType.{ScalarType}
use Rattle.ast_to_asr.specs.Expressions.{Elaborated, Elab, in_kind, binary_of, operated, operation_of, integer_result, logical_result, greater}
use Rattle.ast_to_asr.specs.declared.names.ScalarType.TheVariants.{Integer, Logical}
use Rattle.ast_to_asr.specs.Judged.{map_right, right}
use Rattle.ast_to_asr.specs.Known.{type_of}
use Rattle.ast_to_asr.specs.Building.{Adds, AddsOr, Converts, Joins, JoinsOr, BuildsOfTwo, Is, tree_at, key_of}
use Rattle.ast_to_asr.proofs.Makings.{there_parts, makes_swapped}
use Rattle.ast_to_asr.proofs.Builds.{adds_makes, tree_kept}

pub second_there : (a : Nodes) (x y : Key) → there a (x ∷ y ∷ []) ≡ true → there a (y ∷ []) ≡ true
second_there a x y h = (there_parts a (x ∷ []) (y ∷ []) h).1

pub first_of_two : (a : Nodes) (x y : Key) → there a (x ∷ y ∷ []) ≡ true → there a (x ∷ []) ≡ true
first_of_two a x y h = (there_parts a (x ∷ []) (y ∷ []) h).0

pub second_still : (a b : Nodes) (kind from : ℕ) (left l : Built) (y : Key) → there a (key_of left ∷ y ∷ []) ≡ true → Converts a b kind from left l → there b (y ∷ []) ≡ true
second_still a b kind from left l y h c = there_still a b c.exchanges.extends (y ∷ []) (second_there a (key_of left) y h)

pub operands_there : (b c : Nodes) (kind k : ℕ) (l right r : Built) → there b (key_of l ∷ []) ≡ true → Converts b c kind k right r → there c (key_of l ∷ key_of r ∷ []) ≡ true
operands_there b c kind k l right r h q = by _ _ (there_parts_one (there_still b c q.exchanges.extends (key_of l ∷ []) h)) q.exchanges.stand
  where
    by : (d e : Bool) → d ≡ true → e ≡ true → (d && e) ≡ true
    by d e f g = ap (λ z. z && e) f ∙ g

    there_parts_one : there c (key_of l ∷ []) ≡ true → is_some (Rattle.asr_nodes.specs.Nodes.node_at c (key_of l)) ≡ true
    there_parts_one h = (Rattle.std.proofs.lemmas.Bool.and_parts _ _ h).0

pub joined : (a b c d : Nodes) (code kind j k : ℕ) (ty : ScalarType) (left right l r i : Built) → there a (key_of left ∷ key_of right ∷ []) ≡ true
    → Converts a b kind j left l → Converts b c kind k right r → Adds c d (Binary code l.id r.id) ty i → Joins a d code kind j k ty left right i
joined a b c d code kind j k ty left right l r i t p q h = record {
  type_is = h.type_is;
  writes = h.writes;
  tree =
      h.tree
      ∙ (ap (λ x. tree.Binary code x (tree_at c r.id)) (tree_kept b c l.id q.exchanges.extends q.exchanges.scopes p.exchanges.stand ∙ p.tree)
      ∙ ap (tree.Binary code (in_kind kind j (tree_at a left.id))) (q.tree ∙ ap (in_kind kind k) (tree_kept a b right.id p.exchanges.extends p.exchanges.scopes (second_there a (key_of left) (key_of right) t))));
  makes = λ start m.
      let m1 = p.exchanges.makes start (key_of right ∷ []) m in
      let m2 = makes_swapped start b (key_of l ∷ []) (key_of right ∷ []) m1 in
      let m3 = q.exchanges.makes start (key_of l ∷ []) m2 in
      let m4 = makes_swapped start c (key_of r ∷ []) (key_of l ∷ []) m3 in
      adds_makes start c d (Binary code l.id r.id) ty i [] m4 h;
}

pub joins_or : (a b c d : Nodes) (code kind j k : ℕ) (ty : ScalarType) (left right l r : Built) (s : Result Built Memory) → there a (key_of left ∷ key_of right ∷ []) ≡ true
    → Converts a b kind j left l → Converts b c kind k right r → AddsOr c d (Binary code l.id r.id) ty s → JoinsOr a d code kind j k ty left right s
joins_or a b c d code kind j k ty left right l r (Ok i) t p q h = joined a b c d code kind j k ty left right l r i t p q h
joins_or a b c d code kind j k ty left right l r (Err fault) t p q h = tt

pub ruleset joins = (first_of_two, second_still, operands_there, joins_or)

-- an operation by the types of its operands
binary_is : (code : ℕ) (op : Operator) (x y : Elaborated) (s t : declared.ScalarType) → operator_of code ≡ Some op → x.ty ≡ s → y.ty ≡ t
    → binary_of code (operator_of code) x y ≡ map_right (operated code (x.is_constant && y.is_constant)) (right E401 (operation_of op s x.tree t y.tree))
binary_is code op x y s t e f g =
    ap (λ o. binary_of code o x y) e
    ∙ ap (λ u. map_right (operated code (x.is_constant && y.is_constant)) (right E401 (operation_of op u x.tree y.ty y.tree))) f
    ∙ ap (λ u. map_right (operated code (x.is_constant && y.is_constant)) (right E401 (operation_of op s x.tree u y.tree))) g

type_is : (a : Nodes) (b : Built) (x : Elaborated) (ty : ScalarType) → Is a b x → b.ty ≡ ty → x.ty ≡ type_of ty
type_is a b x ty h e = sym h.ty ∙ ap type_of e

none_is : (o : Option ScalarType) → o ≡ None → option_map type_of o ≡ None
none_is o e = ap (option_map type_of) e

module _ (a b : Nodes) (l r : Built) where
  pub two_failed : (f : Elaborated → Elaborated → Elab) (fault : Memory) → BuildsOfTwo a b l r f (Err fault)
  two_failed f fault = record { by = λ start x y p q m. tt }

module _ (a : Nodes) (code : ℕ) (l r : Built) where
  pub binary_none : operator_of code ≡ None → BuildsOfTwo a a l r (binary_of code (operator_of code)) (Ok None)
  binary_none e = record { by = λ start x y p q m. record { rule = E202; wrong = ap (λ o. binary_of code o x y) e } }

  module _ (op : Operator) (e : operator_of code ≡ Some op) where
    pub binary_mixed : (j : ℕ) → l.ty ≡ Integer j → r.ty ≡ Logical → BuildsOfTwo a a l r (binary_of code (operator_of code)) (Ok None)
    binary_mixed j f g = record { by = λ start x y p q m. record { rule = E401; wrong = binary_is code op x y (declared.IntegerType j) declared.LogicalType e (type_is a l x (Integer j) p f) (type_is a r y Logical q g) } }

    pub binary_swapped : (k : ℕ) → l.ty ≡ Logical → r.ty ≡ Integer k → BuildsOfTwo a a l r (binary_of code (operator_of code)) (Ok None)
    binary_swapped k f g = record { by = λ start x y p q m. record { rule = E401; wrong = binary_is code op x y declared.LogicalType (declared.IntegerType k) e (type_is a l x Logical p f) (type_is a r y (Integer k) q g) } }

    ints_are : (x y : Elaborated) (j k : ℕ) (o : Option declared.ScalarType) → integer_result op (greater j k) ≡ o
        → map_right (operated code (x.is_constant && y.is_constant)) (right E401 (operation_of op (declared.IntegerType j) x.tree (declared.IntegerType k) y.tree))
        ≡ map_right (operated code (x.is_constant && y.is_constant)) (right E401 (Rattle.ast_to_asr.specs.Expressions.on_integers j x.tree k y.tree o))
    ints_are x y j k o h = ap (λ u. map_right (operated code (x.is_constant && y.is_constant)) (right E401 (Rattle.ast_to_asr.specs.Expressions.on_integers j x.tree k y.tree u))) h

    pub binary_not_integers : (j k : ℕ) (o : Option ScalarType) → l.ty ≡ Integer j → r.ty ≡ Integer k → option_map type_of o ≡ integer_result op (greater j k) → o ≡ None → BuildsOfTwo a a l r (binary_of code (operator_of code)) (Ok None)
    binary_not_integers j k o f g h n = record {
      by = λ start x y p q m.
          record {
            rule = E401;
            wrong = binary_is code op x y (declared.IntegerType j) (declared.IntegerType k) e (type_is a l x (Integer j) p f) (type_is a r y (Integer k) q g) ∙ ints_are x y j k None (sym h ∙ none_is o n);
          };
    }

    pub binary_integers : (b : Nodes) (j k : ℕ) (o : Option ScalarType) (ty : ScalarType) (i : Built) → l.ty ≡ Integer j → r.ty ≡ Integer k → option_map type_of o ≡ integer_result op (greater j k) → o ≡ Some ty
        → Joins a b code (greater j k) j k ty l r i → BuildsOfTwo a b l r (binary_of code (operator_of code)) (Ok (Some i))
    binary_integers b j k o ty i f g h n z = record {
      by = λ start x y p q m. (
        record {
          elaborated = operated code (x.is_constant && y.is_constant) (record { left = in_kind (greater j k) j x.tree; right = in_kind (greater j k) k y.tree; ty = type_of ty });
          right =
              binary_is code op x y (declared.IntegerType j) (declared.IntegerType k) e (type_is a l x (Integer j) p f) (type_is a r y (Integer k) q g)
              ∙ ints_are x y j k (Some (type_of ty)) (sym h ∙ ap (option_map type_of) n);
          is = record {
            tree = z.tree ∙ ap (λ t. tree.Binary code (in_kind (greater j k) j t) (in_kind (greater j k) k (tree_at a r.id))) p.tree ∙ ap (λ t. tree.Binary code (in_kind (greater j k) j x.tree) (in_kind (greater j k) k t)) q.tree;
            ty = ap type_of z.type_is;
            writes = z.writes;
          };
        },
        z.makes start m,
      );
    }

    logicals_are : (x y : Elaborated) (o : Option declared.ScalarType) → logical_result op ≡ o
        → map_right (operated code (x.is_constant && y.is_constant)) (right E401 (operation_of op declared.LogicalType x.tree declared.LogicalType y.tree))
        ≡ map_right (operated code (x.is_constant && y.is_constant)) (right E401 (Rattle.ast_to_asr.specs.Expressions.on_logicals x.tree y.tree o))
    logicals_are x y o h = ap (λ u. map_right (operated code (x.is_constant && y.is_constant)) (right E401 (Rattle.ast_to_asr.specs.Expressions.on_logicals x.tree y.tree u))) h

    pub binary_not_logicals : (o : Option ScalarType) → l.ty ≡ Logical → r.ty ≡ Logical → option_map type_of o ≡ logical_result op → o ≡ None → BuildsOfTwo a a l r (binary_of code (operator_of code)) (Ok None)
    binary_not_logicals o f g h n = record {
      by = λ start x y p q m.
          record {
            rule = E401;
            wrong = binary_is code op x y declared.LogicalType declared.LogicalType e (type_is a l x Logical p f) (type_is a r y Logical q g) ∙ logicals_are x y None (sym h ∙ none_is o n);
          };
    }

    pub binary_logicals : (b : Nodes) (o : Option ScalarType) (ty : ScalarType) (i : Built) → l.ty ≡ Logical → r.ty ≡ Logical → option_map type_of o ≡ logical_result op → o ≡ Some ty
        → Adds a b (Binary code l.id r.id) ty i → BuildsOfTwo a b l r (binary_of code (operator_of code)) (Ok (Some i))
    binary_logicals b o ty i f g h n z = record {
      by = λ start x y p q m. (
        record {
          elaborated = operated code (x.is_constant && y.is_constant) (record { left = x.tree; right = y.tree; ty = type_of ty });
          right =
              binary_is code op x y declared.LogicalType declared.LogicalType e (type_is a l x Logical p f) (type_is a r y Logical q g)
              ∙ logicals_are x y (Some (type_of ty)) (sym h ∙ ap (option_map type_of) n);
          is = record {
            tree = z.tree ∙ ap (λ t. tree.Binary code t (tree_at a r.id)) p.tree ∙ ap (λ t. tree.Binary code x.tree t) q.tree;
            ty = ap type_of z.type_is;
            writes = z.writes;
          };
        },
        adds_makes start a b (Binary code l.id r.id) ty i [] m z,
      );
    }

pub ruleset binaries = (first_of_two, two_failed, binary_none, binary_mixed, binary_swapped)
