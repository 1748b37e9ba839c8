-- What is built of what was built.
use Rattle.std.proofs.Common.{◌≡◌, ℕ, true, false, ◌==◌, ◌&&◌, is_some, cond, List, [], ◌∷◌, ◌++◌, Some, None, Ok, Err, refl, sym, ap, subst, ◌∙◌}
use Rattle.std.proofs.lemmas.List.{append-nil}
use Rattle.lf_base.specs.Operators.{operator_of}
use Rattle.lf_base.specs.declared.operator.Operator.{Operator}
use Rattle.lf_base.specs.declared.rule.Rule.TheVariants.{E202, E401}
use Rattle.asr_nodes.specs.declared.tree.ExprTree.TheVariants as tree
use Rattle.lf_base.specs.declared.id.ExprId.{ExprId}
use Rattle.lf_base.specs.declared.fault.Memory.{Memory}
use Rattle.std.specs.Prelude.{Result}
use Rattle.symtab_arena.specs.Paths.{path_of}
use Rattle.asr_nodes.specs.Keys.{Key, expr}
use Rattle.asr_nodes.specs.Nodes.{Nodes, Extends, BuildsExpr, ExprStandsFor, expr_tree, reads, there, node_at}
use Rattle.asr_nodes.specs.Parts.{expr_parts}
use Rattle.asr_nodes.specs.Reading.{expr_node}
use Rattle.asr_nodes.specs.declared.node.Expr.{Expr}
use Rattle.asr_nodes.specs.declared.node.Expr.TheVariants.{Convert, Unary, Paren}
use Rattle.asr_nodes.proofs.Grows.{some_is}
use Rattle.ast_to_asr.specs.declared.build.Built.{Built}
use Rattle.ast_to_asr.specs.declared.names.ScalarType.{ScalarType}
use Rattle.ast_to_asr.specs.declared.names.ScalarType.TheVariants.{Integer}
use Rattle.ast_to_asr.specs.Expressions.{Elaborated, Elab, value, unary_of, takes_operand, in_parentheses}
use Rattle.ast_to_asr.specs.Known.{type_of}
use Rattle.ast_to_asr.specs.Making.{Makes}
use Rattle.ast_to_asr.specs.Building.{Adds, AddsOr, Exchanges, ConvertsOr, Is, IsWrong, BuildsOf, tree_at, key_of}
use Rattle.ast_to_asr.proofs.Makings.{extends_none, there_parts, makes_expr}

-- the symbols are those that they were
same_scopes : (old new : Nodes) (x : Expr) (id : ExprId) → BuildsExpr old new x (Ok id) → new.scopes ≡ old.scopes
same_scopes old new x id h = ap (λ a. a.scopes) h.1

pub added : (old new : Nodes) (x : Expr) (ty : ScalarType) (id : ExprId) → BuildsExpr old new x (Ok id) → ExprStandsFor old new x (Ok id) → Extends old new
    → Adds old new x ty (record { id = id; ty = ty; writes = None })
added old new x ty id h s e = record {
  type_is = refl;
  writes = refl;
  builds = h;
  extends = e;
  stand = ap (λ b. b && true) (ap is_some s.node);
  tree = s.tree (path_of new.scopes) ∙ ap (λ p. expr_node (reads old (path_of p)) x) (same_scopes old new x id h);
}

-- what was there has the tree that it had
pub tree_kept : (a b : Nodes) (id : ExprId) → Extends a b → b.scopes ≡ a.scopes → there a (expr id ∷ []) ≡ true → tree_at b id ≡ tree_at a id
tree_kept a b id e s t =
    let x = some_is (node_at a (expr id)) (there_parts_first a (expr id) t) in
    ap (λ p. expr_tree b (path_of p) id) s ∙ e.trees (expr id) x.0 x.1 (path_of a.scopes)
  where
    there_parts_first : (a : Nodes) (key : Key) → there a (key ∷ []) ≡ true → is_some (node_at a key) ≡ true
    there_parts_first a key h = (Rattle.std.proofs.lemmas.Bool.and_parts _ _ h).0

pub is_kept : (a b : Nodes) (i : Built) (x : Elaborated) → Extends a b → b.scopes ≡ a.scopes → there a (key_of i ∷ []) ≡ true → Is a i x → Is b i x
is_kept a b i x e s t h = record { tree = tree_kept a b i.id e s t ∙ h.tree; ty = h.ty; writes = h.writes }

-- the first of what is made is there
pub first_there : (a b : Nodes) (key : Key) (rest : List Key) → Makes a b (key ∷ rest) → there b (key ∷ []) ≡ true
first_there a b key rest h = (there_parts b (key ∷ []) rest h.stand).0

pub adds_makes : (a b c : Nodes) (x : Expr) (ty : ScalarType) (i : Built) (rest : List Key) → Makes a b (expr_parts x ++ rest) → Adds b c x ty i → Makes a c (key_of i ∷ rest)
adds_makes a b c x ty i rest p h = makes_expr a b c x i.id rest p h.extends h.builds

pub exchanges_none : (a : Nodes) (key : Key) → there a (key ∷ []) ≡ true → Exchanges a a key key
exchanges_none a key t = record { extends = extends_none a; scopes = refl; stand = t; makes = λ start rest m. m }

pub converts_none : (a : Nodes) (kind from : ℕ) (operand : Built) → there a (key_of operand ∷ []) ≡ true → (from == kind) ≡ true → ConvertsOr a a kind from operand (Ok (record { id = operand.id; ty = Integer kind; writes = None }))
converts_none a kind from operand t e = record {
  ty = refl;
  tree = sym (ap (λ b. cond b (tree_at a operand.id) (Rattle.asr_nodes.specs.declared.tree.ExprTree.TheVariants.Convert kind (tree_at a operand.id))) e);
  exchanges = exchanges_none a (key_of operand) t;
}

pub converts_more : (a b : Nodes) (kind from : ℕ) (operand : Built) (r : Result Built Memory) → (from == kind) ≡ false → AddsOr a b (Convert kind operand.id) (Integer kind) r → ConvertsOr a b kind from operand r
converts_more a b kind from operand (Ok i) e h = record {
  ty = h.type_is;
  tree = h.tree ∙ sym (ap (λ t. cond t (tree_at a operand.id) (Rattle.asr_nodes.specs.declared.tree.ExprTree.TheVariants.Convert kind (tree_at a operand.id))) e);
  exchanges = record { extends = h.extends; scopes = same_scopes a b (Convert kind operand.id) i.id h.builds; stand = h.stand; makes = λ start rest m. adds_makes start a b (Convert kind operand.id) (Integer kind) i rest m h };
}
converts_more a b kind from operand (Err fault) e h = tt

-- One operand.
module _ (a b : Nodes) (operand : Built) where
  pub of_failed : (f : Elaborated → Elab) (fault : Memory) → BuildsOf a b operand f (Err fault)
  of_failed f fault = record { by = λ start x h m. tt }

  pub of_right : (f : Elaborated → Elab) (g : Elaborated → Elaborated) (node : Expr) (i : Built) → ((x : Elaborated) → Is a operand x → (f x ≡ Ok (g x)) × ((expr_node (reads a (path_of a.scopes)) node ≡ (g x).tree) × ((type_of i.ty ≡ (g x).ty) × ((g x).writes ≡ None))))
      → expr_parts node ≡ key_of operand ∷ [] → Adds a b node i.ty i → BuildsOf a b operand f (Ok (Some i))
  of_right f g node i by parts h = record {
    by = λ start x is m.
        let q = by x is in (
          record { elaborated = g x; right = q.0; is = record { tree = h.tree ∙ q.1.0; ty = q.1.1.0; writes = h.writes ∙ sym q.1.1.1 } },
          adds_makes start a b node i.ty i [] (subst (λ keys. Makes start a keys) (sym (append-nil (expr_parts node) ∙ parts)) m) h,
        );
  }

pub of_wrong : (a : Nodes) (operand : Built) (f : Elaborated → Elab) → ((x : Elaborated) → Is a operand x → IsWrong (f x)) → BuildsOf a a operand f (Ok None)
of_wrong a operand f by = record { by = λ start x is m. by x is }

pub unary_none : (a : Nodes) (code : ℕ) (operand : Built) → operator_of code ≡ None → BuildsOf a a operand (unary_of code (operator_of code)) (Ok None)
unary_none a code operand e = of_wrong a operand (unary_of code (operator_of code)) (λ x is. record { rule = E202; wrong = ap (λ op. unary_of code op x) e })

pub unary_wrong : (a : Nodes) (code : ℕ) (op : Operator) (operand : Built) → operator_of code ≡ Some op → takes_operand op (type_of operand.ty) ≡ false → BuildsOf a a operand (unary_of code (operator_of code)) (Ok None)
unary_wrong a code op operand e t =
    of_wrong a operand (unary_of code (operator_of code))
    (λ x is. record { rule = E401; wrong = ap (λ o. unary_of code o x) e ∙ ap (λ b. cond b (Ok (value (tree.Unary code x.tree) x.ty x.is_constant)) (Err E401)) (ap (takes_operand op) (sym is.ty) ∙ t) })

pub unary_right : (a b : Nodes) (code : ℕ) (op : Operator) (operand i : Built) → operator_of code ≡ Some op → takes_operand op (type_of operand.ty) ≡ true → Adds a b (Unary code operand.id) operand.ty i
    → BuildsOf a b operand (unary_of code (operator_of code)) (Ok (Some i))
unary_right a b code op operand i e t h =
    of_right a b operand (unary_of code (operator_of code)) (λ x. value (tree.Unary code x.tree) x.ty x.is_constant) (Unary code operand.id) i
    (λ x is. (
      ap (λ o. unary_of code o x) e ∙ ap (λ b. cond b (Ok (value (tree.Unary code x.tree) x.ty x.is_constant)) (Err E401)) (ap (takes_operand op) (sym is.ty) ∙ t),
      (ap (tree.Unary code) is.tree, (ap type_of h.type_is ∙ is.ty, refl)),
    ))
    refl (subst (λ ty. Adds a b (Unary code operand.id) ty i) (sym h.type_is) h)

pub paren_right : (a b : Nodes) (operand i : Built) → Adds a b (Paren operand.id) operand.ty i → BuildsOf a b operand (λ x. Ok (in_parentheses x)) (Ok (Some i))
paren_right a b operand i h =
    of_right a b operand (λ x. Ok (in_parentheses x)) in_parentheses (Paren operand.id) i
    (λ x is. (refl, (ap tree.Paren is.tree, (ap type_of h.type_is ∙ is.ty, refl))))
    refl (subst (λ ty. Adds a b (Paren operand.id) ty i) (sym h.type_is) h)

pub ruleset operands = (of_failed, unary_none, unary_wrong, unary_right, paren_right)

pub ruleset converting = (converts_none, converts_more)
