-- By numbers of nodes and by trees the same becomes of a node, where the same becomes of its parts.
use Rattle.std.proofs.Common.{◌≡◌, ℕ, suc, ◌+◌, ◌==◌, Bool, true, false, if◌then◌else◌, List, [], ◌∷◌, ◌++◌, map, length, length-append, Option, Some, None, option_map, refl, sym, ap, subst, ◌∙◌, arith, append_assoc}
use Rattle.std.specs.List.{list_all, AllByRecursion}
use Rattle.std.specs.Option.{option_map_or}
use Rattle.lf_base.specs.declared.id.ExprId.{ExprId}
use Rattle.lf_base.specs.declared.id.StmtId.{StmtId}
use Rattle.lf_base.specs.declared.id.SymId.{SymId}
use Rattle.asr_nodes.specs.Keys.{Key, expr, stmt, Node, Tree, exprs, stmts, chained}
use Rattle.asr_nodes.specs.Keys as keys_of
use Rattle.asr_nodes.specs.Nodes.{Nodes, node_at}
use Rattle.asr_nodes.specs.Parts.{parts, expr_parts, stmt_parts, section_part_parts, array_item_parts, print_item_parts, case_parts}
use Rattle.asr_nodes.specs.Parts as parts_of
use Rattle.asr_nodes.specs.Reading.{Path, Reading, reading, node_tree, expr_node, stmt_node, section_part_node, array_item_node, print_item_node, case_node, elem_node}
use Rattle.asr_nodes.specs.Visits.{visits_node}
use Rattle.asr_nodes.specs.Walks.{ends, tree_within}
use Rattle.asr_nodes.specs.declared.code.TheConstants.{FORMAT_LIST as list_form}
use Rattle.asr_nodes.specs.declared.node.ArrayItem.{ArrayItem, ArrayItem-F, fold-roll-ArrayItem}
use Rattle.asr_nodes.specs.declared.node.ArrayItem.TheVariants as ai
use Rattle.asr_nodes.specs.declared.node.Case.{Case}
use Rattle.asr_nodes.specs.declared.node.Expr.{Expr}
use Rattle.asr_nodes.specs.declared.node.Expr.TheVariants as e
use Rattle.asr_nodes.specs.declared.node.PrintItem.{PrintItem, PrintItem-F, fold-roll-PrintItem}
use Rattle.asr_nodes.specs.declared.node.PrintItem.TheVariants as pi
use Rattle.asr_nodes.specs.declared.node.SectionPart.{SectionPart}
use Rattle.asr_nodes.specs.declared.node.SectionPart.TheVariants as part
use Rattle.asr_nodes.specs.declared.node.Stmt.{Stmt}
use Rattle.asr_nodes.specs.declared.node.Stmt.TheVariants as s
use Rattle.asr_nodes.specs.declared.tree.ArrayItemTree.TheVariants as ait
use Rattle.asr_nodes.specs.declared.tree.ExprTree.TheVariants as et
use Rattle.asr_nodes.specs.declared.tree.PrintItemTree.TheVariants as pit
use Rattle.asr_nodes.specs.declared.tree.SectionPartTree.TheVariants as spt
use Rattle.asr_nodes.specs.declared.tree.StmtTree.{StmtTree}
use Rattle.asr_nodes.specs.declared.tree.StmtTree.TheVariants as st
use Rattle.asr_nodes.proofs.ArrayItems as array_items
use Rattle.asr_nodes.proofs.PrintItems as print_items
use Rattle.asr_nodes.proofs.Splicing.{all_first, all_last}
use Rattle.asr_nodes.proofs.TreeFolds as folds
use Rattle.asr_nodes.proofs.VisitLists.{chained_more}
use Rattle.pass_array_op.specs.Drawing.{Drawn, plain, taking, in_turn, perhaps, cons, some}
use Rattle.pass_array_op.specs.Lowering.{Item, whole, values_in, print_layer, recorded, array_item_layer, expr_layer, print_item_layer, section_part_layer, stmt_layer, case_layer, lowered_array_item, lowered_expr, lowered_item, lowered_section_part, lowered_stmt, lowered_case}
use Rattle.pass_array_op.specs.Lowering as lowering
use Rattle.pass_array_op.specs.Prints.{value_of, value_layer, values_of, values_put, values_at, number_of, prints, IsRecord, AreRecords}
use Rattle.pass_array_op.specs.Prints as prints_of

pub prints_append : (a : Nodes) (ks js : List Key) → prints a (ks ++ js) ≡ prints a ks ++ prints a js
prints_append a [] js = refl
prints_append a (k ∷ ks) js = ap (λ l. number_of k (node_at a k) ++ l) (prints_append a ks js) ∙ sym (append_assoc (number_of k (node_at a k)) (prints a ks) (prints a js))

pub records_split : (old new : Nodes) (first : ℕ) (ks js : List StmtId) → AreRecords old new first (ks ++ js) → AreRecords old new first ks × AreRecords old new (first + length ks) js
records_split old new first [] js h = (tt, subst (λ n. AreRecords old new n js) (omega arith) h)
records_split old new first (k ∷ ks) js h =
    let r = records_split old new (suc first) ks js h.1 in
    ((h.0, r.0), subst (λ n. AreRecords old new n js) (omega arith) r.1)

abbrev pub lowered_tree : (key : Key) → Tree key → Drawn (Tree key)
lowered_tree (expr id) = lowered_expr
lowered_tree (stmt id) = lowered_stmt

module _ (old new : Nodes) (n : ℕ) where
  -- the statements that are lowered below some keys, as far as so many steps lead
  abbrev pub found : List Key → List StmtId
  found keys = prints old (chained (map (tree_within visits_node (λ key. []) (node_at old) n) keys))

  abbrev pub all_end : List Key → Bool
  all_end = list_all (ends parts (λ _. true) (node_at old) n)

  -- What stands for something below these keys becomes what its definition says.
  pub record Becomes {A : Type 0} (keys : List Key) (drawn : Drawn A) (value : A) : Type 0 where
    pub counts : all_end keys ≡ true → drawn.count ≡ length (found keys)
    pub is : all_end keys ≡ true → (first : ℕ) → AreRecords old new first (found keys) → value ≡ drawn.from first

  found_append : (ks js : List Key) → found (ks ++ js) ≡ found ks ++ found js
  found_append ks js =
      ap (prints old) (chained_more (tree_within visits_node (λ key. []) (node_at old) n) ks js)
      ∙ prints_append old (chained (map (tree_within visits_node (λ key. []) (node_at old) n) ks)) (chained (map (tree_within visits_node (λ key. []) (node_at old) n) js))

  none : {A : Type 0} (a : A) → Becomes [] (plain a) a
  none a = record { counts = λ e. refl; is = λ e first h. refl }

  more : {A B : Type 0} {ks js : List Key} {f : Drawn (A → B)} {a : Drawn A} {g : A → B} {b : A} → Becomes ks f g → Becomes js a b → Becomes (ks ++ js) (taking f a) (g b)
  more {A} {B} {ks} {js} {f} {a} {g} {b} h k = record {
    counts = λ e.
        let x = h.counts (all_first _ ks js e) in
        let y = k.counts (all_last _ ks js e) in
        let z = ap length (found_append ks js) in
        let l = length-append (found ks) (found js) in
        omega (arith, x, y, z, l);
    is = λ e first r.
        let p = records_split old new first (found ks) (found js) (subst (λ l. AreRecords old new first l) (found_append ks js) r) in
        let c = h.counts (all_first _ ks js e) in
        let x = h.is (all_first _ ks js e) first p.0 in
        let y = k.is (all_last _ ks js e) (first + length (found ks)) p.1 ∙ ap (λ m. a.from (first + m)) (sym c) in
        λ i. x i (y i);
  }

  as_is : {A : Type 0} {ks js : List Key} {d c : Drawn A} {v w : A} → ks ≡ js → d ≡ c → v ≡ w → Becomes ks d v → Becomes js c w
  as_is {A} {ks} {js} {d} {c} {v} {w} p q r h = subst (λ k. Becomes k c w) p (subst (λ k. Becomes ks k w) q (subst (λ k. Becomes ks d k) r h))

  -- with the trees of the parts
  module _ (path : SymId → Path) (f g : (key : Key) → Tree key) (each : (key : Key) → Becomes (key ∷ []) (lowered_tree key (f key)) (g key)) where
    abbrev r : Reading
    r = reading path f

    abbrev q : Reading
    q = reading path g

    pub all_exprs : (ids : List ExprId) → Becomes (exprs ids) (in_turn (map lowered_expr (map r.expr ids))) (map q.expr ids)
    all_exprs [] = none []
    all_exprs (id ∷ ids) = more (more (none cons) (each (expr id))) (all_exprs ids)

    pub all_stmts : (ids : List StmtId) → Becomes (stmts ids) (in_turn (map lowered_stmt (map r.stmt ids))) (map q.stmt ids)
    all_stmts [] = none []
    all_stmts (id ∷ ids) = more (more (none cons) (each (stmt id))) (all_stmts ids)

    maybe : (id : Option ExprId) → Becomes (keys_of.perhaps id) (perhaps (option_map lowered_expr (option_map r.expr id))) (option_map q.expr id)
    maybe None = none None
    maybe (Some id) = more (none some) (each (expr id))

    several : {X A T : Type 0} (keys : X → List Key) (low : T → Drawn A) (a : X → T) (b : X → A) → ((x : X) → Becomes (keys x) (low (a x)) (b x)) → (xs : List X) → Becomes (chained (map keys xs)) (in_turn (map low (map a xs))) (map b xs)
    several keys low a b h [] = none []
    several keys low a b h (x ∷ xs) = more (more (none cons) (h x)) (several keys low a b h xs)

    case_becomes : (x : Case) → Becomes (case_parts x) (lowered_case (case_node r x)) (case_node q x)
    case_becomes x =
        as_is refl (sym (folds.fold_case _ _ _ _ _ _ array_item_layer expr_layer print_item_layer section_part_layer stmt_layer case_layer (case_node r x))) refl
        (more (none (λ (body : List StmtTree). record { ranges = x.ranges; body = body })) (all_stmts x.body))

    section_becomes : (x : SectionPart) → Becomes (section_part_parts x) (lowered_section_part (section_part_node r x)) (section_part_node q x)
    section_becomes (part.At index) =
        as_is refl (sym (folds.fold_section_part-At _ _ _ _ _ _ array_item_layer expr_layer print_item_layer section_part_layer stmt_layer case_layer (r.expr index))) refl
        (more (none spt.At) (each (expr index)))
    section_becomes (part.Triple lower upper step) =
        as_is (append_assoc (keys_of.perhaps lower) (keys_of.perhaps upper) (keys_of.perhaps step)) (sym (folds.fold_section_part-Triple _ _ _ _ _ _ array_item_layer expr_layer print_item_layer section_part_layer stmt_layer case_layer (option_map r.expr lower) (option_map r.expr upper) (option_map r.expr step))) refl
        (more (more (more (none spt.Triple) (maybe lower)) (maybe upper)) (maybe step))

    abbrev ArrayItemBecomes : ArrayItem → Type 0
    ArrayItemBecomes x = Becomes (array_item_parts x) (lowered_array_item (array_item_node r x)) (array_item_node q x)

    array_items_become : (xs : List ArrayItem) → AllByRecursion ArrayItemBecomes xs → Becomes (chained (map array_item_parts xs)) (in_turn (map lowered_array_item (map (array_item_node r) xs))) (map (array_item_node q) xs)
    array_items_become [] h = none []
    array_items_become (x ∷ xs) h = more (more (none cons) h.0) (array_items_become xs h.1)

    array_item_becomes : (x : ArrayItem) → ArrayItemBecomes x
    array_item_becomes = array_items.by_cases ArrayItemBecomes (record {
      value = λ value.
          as_is (sym (ap array_item_parts (sym (ai.rolls-Value value)) ∙ fold-roll-ArrayItem (List Key) parts_of.array_item_layer (ArrayItem-F.Value value)))
          (sym (ap lowered_array_item (array_items.node-Value r value) ∙ folds.fold_array_item-Value _ _ _ _ _ _ array_item_layer expr_layer print_item_layer section_part_layer stmt_layer case_layer (r.expr value)))
          (sym (array_items.node-Value q value))
          (more (none ait.Value) (each (expr value)));
      loop = λ number lower upper step items h.
          as_is (sym (ap array_item_parts (sym (ai.rolls-Loop number lower upper step items)) ∙ fold-roll-ArrayItem (List Key) parts_of.array_item_layer (ArrayItem-F.Loop number lower upper step items)))
          (sym (ap lowered_array_item (array_items.node-Loop r number lower upper step items) ∙ folds.fold_array_item-Loop _ _ _ _ _ _ array_item_layer expr_layer print_item_layer section_part_layer stmt_layer case_layer number lower upper step (map (array_item_node r) items)))
          (sym (array_items.node-Loop q number lower upper step items))
          (more (none (ait.Loop number lower upper step)) (array_items_become items h));
    })

    abbrev PrintItemBecomes : PrintItem → Type 0
    PrintItemBecomes x = Becomes (print_item_parts x) (whole (lowered_item (print_item_node r x))) (print_item_node q x)

    print_items_become : (xs : List PrintItem) → AllByRecursion PrintItemBecomes xs → Becomes (chained (map print_item_parts xs)) (in_turn (map whole (map lowered_item (map (print_item_node r) xs)))) (map (print_item_node q) xs)
    print_items_become [] h = none []
    print_items_become (x ∷ xs) h = more (more (none cons) h.0) (print_items_become xs h.1)

    print_item_becomes : (x : PrintItem) → PrintItemBecomes x
    print_item_becomes = print_items.by_cases PrintItemBecomes (record {
      value = λ value.
          as_is (sym (ap print_item_parts (sym (pi.rolls-Value value)) ∙ fold-roll-PrintItem (List Key) parts_of.print_item_layer (PrintItem-F.Value value)))
          (sym (ap (λ x. whole (lowered_item x)) (print_items.node-Value r value) ∙ ap whole (folds.fold_print_item-Value _ _ _ _ _ _ array_item_layer expr_layer print_item_layer section_part_layer stmt_layer case_layer (r.expr value))))
          (sym (print_items.node-Value q value))
          (more (none pit.Value) (each (expr value)));
      loop = λ variable lower upper step items h.
          as_is (sym (ap print_item_parts (sym (pi.rolls-Loop variable lower upper step items)) ∙ fold-roll-PrintItem (List Key) parts_of.print_item_layer (PrintItem-F.Loop variable lower upper step items)))
          (sym (ap (λ x. whole (lowered_item x)) (print_items.node-Loop r variable lower upper step items) ∙ ap whole (folds.fold_print_item-Loop _ _ _ _ _ _ array_item_layer expr_layer print_item_layer section_part_layer stmt_layer case_layer (r.expr variable) (r.expr lower) (r.expr upper) (r.expr step) (map (print_item_node r) items))))
          (sym (print_items.node-Loop q variable lower upper step items))
          (more (more (more (more (more (none pit.Loop) (each (expr variable))) (each (expr lower))) (each (expr upper))) (each (expr step))) (print_items_become items h));
    })

    each_print_item : (xs : List PrintItem) → AllByRecursion PrintItemBecomes xs
    each_print_item [] = tt
    each_print_item (x ∷ xs) = (print_item_becomes x, each_print_item xs)

    -- An item has a value by its tree where it has one by its node,
    abbrev SameValue : PrintItem → Type 0
    SameValue x = (lowered_item (print_item_node r x)).value ≡ option_map (λ v. lowered_expr (r.expr v)) (value_of x)

    same_value : (x : PrintItem) → SameValue x
    same_value = print_items.by_cases SameValue (record {
      value = λ value.
          ap (λ x. (lowered_item x).value) (print_items.node-Value r value) ∙ ap (λ (i : Item). i.value) (folds.fold_print_item-Value _ _ _ _ _ _ array_item_layer expr_layer print_item_layer section_part_layer stmt_layer case_layer (r.expr value))
          ∙ sym (ap (option_map (λ v. lowered_expr (r.expr v))) (ap value_of (sym (pi.rolls-Value value)) ∙ fold-roll-PrintItem (Option ExprId) value_layer (PrintItem-F.Value value)));
      loop = λ variable lower upper step items h.
          ap (λ x. (lowered_item x).value) (print_items.node-Loop r variable lower upper step items)
          ∙ ap (λ (i : Item). i.value) (folds.fold_print_item-Loop _ _ _ _ _ _ array_item_layer expr_layer print_item_layer section_part_layer stmt_layer case_layer (r.expr variable) (r.expr lower) (r.expr upper) (r.expr step) (map (print_item_node r) items))
          ∙ sym (ap (option_map (λ v. lowered_expr (r.expr v))) (ap value_of (sym (pi.rolls-Loop variable lower upper step items)) ∙ fold-roll-PrintItem (Option ExprId) value_layer (PrintItem-F.Loop variable lower upper step items)));
    })

    -- and a list likewise.
    pub same_values : (xs : List PrintItem) → values_in (map lowered_item (map (print_item_node r) xs)) ≡ option_map (λ vs. map lowered_expr (map r.expr vs)) (values_of xs)
    same_values [] = refl
    same_values (x ∷ xs) =
        (λ i. lowering.behind_value (same_value x i) (same_values xs i)) ∙ by (value_of x) (values_of xs)
      where
        by : (o : Option ExprId) (os : Option (List ExprId)) → lowering.behind_value (option_map (λ v. lowered_expr (r.expr v)) o) (option_map (λ vs. map lowered_expr (map r.expr vs)) os) ≡ option_map (λ vs. map lowered_expr (map r.expr vs)) (prints_of.behind_value o os)
        by None os = refl
        by (Some v) None = refl
        by (Some v) (Some vs) = refl

    expr_becomes : (x : Expr) → Becomes (expr_parts x) (lowered_expr (expr_node r x)) (expr_node q x)
    expr_becomes (e.IntConst kind value) =
        as_is refl (sym (folds.fold_expr-IntConst _ _ _ _ _ _ array_item_layer expr_layer print_item_layer section_part_layer stmt_layer case_layer kind value)) refl
        (none (et.IntConst kind value))
    expr_becomes (e.LogConst value) =
        as_is refl (sym (folds.fold_expr-LogConst _ _ _ _ _ _ array_item_layer expr_layer print_item_layer section_part_layer stmt_layer case_layer value)) refl
        (none (et.LogConst value))
    expr_becomes (e.CharConst bytes) =
        as_is refl (sym (folds.fold_expr-CharConst _ _ _ _ _ _ array_item_layer expr_layer print_item_layer section_part_layer stmt_layer case_layer bytes)) refl
        (none (et.CharConst bytes))
    expr_becomes (e.Var symbol) =
        as_is refl (sym (folds.fold_expr-Var _ _ _ _ _ _ array_item_layer expr_layer print_item_layer section_part_layer stmt_layer case_layer (path symbol))) refl
        (none (et.Var (path symbol)))
    expr_becomes (e.Item base subscripts) =
        as_is refl (sym (folds.fold_expr-Item _ _ _ _ _ _ array_item_layer expr_layer print_item_layer section_part_layer stmt_layer case_layer (r.expr base) (map r.expr subscripts))) refl
        (more (more (none et.Item) (each (expr base))) (all_exprs subscripts))
    expr_becomes (e.Section base parts) =
        as_is refl (sym (folds.fold_expr-Section _ _ _ _ _ _ array_item_layer expr_layer print_item_layer section_part_layer stmt_layer case_layer (r.expr base) (map (section_part_node r) parts))) refl
        (more (more (none et.Section) (each (expr base))) (several section_part_parts lowered_section_part (section_part_node r) (section_part_node q) section_becomes parts))
    expr_becomes (e.Field base component) =
        as_is refl (sym (folds.fold_expr-Field _ _ _ _ _ _ array_item_layer expr_layer print_item_layer section_part_layer stmt_layer case_layer (r.expr base) component)) refl
        (more (none (λ b. et.Field b component)) (each (expr base)))
    expr_becomes (e.Substring base lower upper) =
        as_is refl (sym (folds.fold_expr-Substring _ _ _ _ _ _ array_item_layer expr_layer print_item_layer section_part_layer stmt_layer case_layer (r.expr base) (option_map r.expr lower) (option_map r.expr upper))) refl
        (more (more (more (none et.Substring) (each (expr base))) (maybe lower)) (maybe upper))
    expr_becomes (e.Unary operator operand) =
        as_is refl (sym (folds.fold_expr-Unary _ _ _ _ _ _ array_item_layer expr_layer print_item_layer section_part_layer stmt_layer case_layer operator (r.expr operand))) refl
        (more (none (et.Unary operator)) (each (expr operand)))
    expr_becomes (e.Binary operator left right) =
        as_is refl (sym (folds.fold_expr-Binary _ _ _ _ _ _ array_item_layer expr_layer print_item_layer section_part_layer stmt_layer case_layer operator (r.expr left) (r.expr right))) refl
        (more (more (none (et.Binary operator)) (each (expr left))) (each (expr right)))
    expr_becomes (e.Convert kind operand) =
        as_is refl (sym (folds.fold_expr-Convert _ _ _ _ _ _ array_item_layer expr_layer print_item_layer section_part_layer stmt_layer case_layer kind (r.expr operand))) refl
        (more (none (et.Convert kind)) (each (expr operand)))
    expr_becomes (e.Paren inner) =
        as_is refl (sym (folds.fold_expr-Paren _ _ _ _ _ _ array_item_layer expr_layer print_item_layer section_part_layer stmt_layer case_layer (r.expr inner))) refl
        (more (none et.Paren) (each (expr inner)))
    expr_becomes (e.Invoke callee arguments) =
        as_is refl (sym (folds.fold_expr-Invoke _ _ _ _ _ _ array_item_layer expr_layer print_item_layer section_part_layer stmt_layer case_layer (path callee) (map r.expr arguments))) refl
        (more (none (et.Invoke (path callee))) (all_exprs arguments))
    expr_becomes (e.Intrinsic code arguments) =
        as_is refl (sym (folds.fold_expr-Intrinsic _ _ _ _ _ _ array_item_layer expr_layer print_item_layer section_part_layer stmt_layer case_layer code (map r.expr arguments))) refl
        (more (none (et.Intrinsic code)) (all_exprs arguments))
    expr_becomes (e.Construct definition arguments) =
        as_is refl (sym (folds.fold_expr-Construct _ _ _ _ _ _ array_item_layer expr_layer print_item_layer section_part_layer stmt_layer case_layer (path definition) (map r.expr arguments))) refl
        (more (none (et.Construct (path definition))) (all_exprs arguments))
    expr_becomes (e.Array items) =
        as_is refl (sym (folds.fold_expr-Array _ _ _ _ _ _ array_item_layer expr_layer print_item_layer section_part_layer stmt_layer case_layer (map (array_item_node r) items))) refl
        (more (none et.Array) (several array_item_parts lowered_array_item (array_item_node r) (array_item_node q) array_item_becomes items))
    expr_becomes (e.Temp number) =
        as_is refl (sym (folds.fold_expr-Temp _ _ _ _ _ _ array_item_layer expr_layer print_item_layer section_part_layer stmt_layer case_layer number)) refl
        (none (et.Temp number))
    expr_becomes (e.Extent symbol dimension) =
        as_is refl (sym (folds.fold_expr-Extent _ _ _ _ _ _ array_item_layer expr_layer print_item_layer section_part_layer stmt_layer case_layer (path symbol) dimension)) refl
        (none (et.Extent (path symbol) dimension))
    expr_becomes (e.Seq stmts value) =
        as_is refl (sym (folds.fold_expr-Seq _ _ _ _ _ _ array_item_layer expr_layer print_item_layer section_part_layer stmt_layer case_layer (map r.stmt stmts) (r.expr value))) refl
        (more (more (none et.Seq) (all_stmts stmts)) (each (expr value)))
    expr_becomes (e.TempAt number place) =
        as_is refl (sym (folds.fold_expr-TempAt _ _ _ _ _ _ array_item_layer expr_layer print_item_layer section_part_layer stmt_layer case_layer number (r.expr place))) refl
        (more (none (et.TempAt number)) (each (expr place)))
    expr_becomes (e.SecLen lower upper step low high) =
        as_is refl (sym (folds.fold_expr-SecLen _ _ _ _ _ _ array_item_layer expr_layer print_item_layer section_part_layer stmt_layer case_layer (r.expr lower) (r.expr upper) (r.expr step) (r.expr low) (r.expr high))) refl
        (more (more (more (more (more (none et.SecLen) (each (expr lower))) (each (expr upper))) (each (expr step))) (each (expr low))) (each (expr high)))
    expr_becomes (e.Arr number element extents) =
        as_is refl (sym (folds.fold_expr-Arr _ _ _ _ _ _ array_item_layer expr_layer print_item_layer section_part_layer stmt_layer case_layer number (elem_node path element) (map r.expr extents))) refl
        (more (none (et.Arr number (elem_node path element))) (all_exprs extents))
    expr_becomes (e.At source line value) =
        as_is refl (sym (folds.fold_expr-At _ _ _ _ _ _ array_item_layer expr_layer print_item_layer section_part_layer stmt_layer case_layer source line (r.expr value))) refl
        (more (none (et.At source line)) (each (expr value)))

    print_stays : (line form advance : ℕ) (items : List PrintItem) (t : Bool) (o : Option (List ExprId)) → (form == list_form) ≡ t → values_of items ≡ o → (if t then o else None) ≡ None → lowered_stmt (stmt_node r (s.Print line form advance items)) ≡ taking (plain (st.Print line form advance)) (in_turn (map whole (map lowered_item (map (print_item_node r) items))))
    print_stays line form advance items false o e v n =
        folds.fold_stmt-Print _ _ _ _ _ _ array_item_layer expr_layer print_item_layer section_part_layer stmt_layer case_layer line form advance (map (print_item_node r) items)
        ∙ ap (λ t. if t then option_map_or (λ values. recorded line (in_turn values)) (values_in (map lowered_item (map (print_item_node r) items))) (taking (plain (st.Print line form advance)) (in_turn (map whole (map lowered_item (map (print_item_node r) items))))) else taking (plain (st.Print line form advance)) (in_turn (map whole (map lowered_item (map (print_item_node r) items))))) e
    print_stays line form advance items true o e v n =
        folds.fold_stmt-Print _ _ _ _ _ _ array_item_layer expr_layer print_item_layer section_part_layer stmt_layer case_layer line form advance (map (print_item_node r) items)
        ∙ ap (λ t. if t then option_map_or (λ values. recorded line (in_turn values)) (values_in (map lowered_item (map (print_item_node r) items))) (taking (plain (st.Print line form advance)) (in_turn (map whole (map lowered_item (map (print_item_node r) items))))) else taking (plain (st.Print line form advance)) (in_turn (map whole (map lowered_item (map (print_item_node r) items))))) e
        ∙ ap (λ o. option_map_or (λ values. recorded line (in_turn values)) o (taking (plain (st.Print line form advance)) (in_turn (map whole (map lowered_item (map (print_item_node r) items)))))) (same_values items ∙ ap (option_map (λ vs. map lowered_expr (map r.expr vs))) (v ∙ n))

    stmt_becomes : (x : Stmt) → values_put x ≡ None → Becomes (stmt_parts x) (lowered_stmt (stmt_node r x)) (stmt_node q x)
    stmt_becomes (s.Print line form advance items) n =
        as_is refl (sym (print_stays line form advance items (form == list_form) (values_of items) refl refl n)) refl
        (more (none (st.Print line form advance)) (print_items_become items (each_print_item items)))
    stmt_becomes (s.Assign line target value) n =
        as_is refl (sym (folds.fold_stmt-Assign _ _ _ _ _ _ array_item_layer expr_layer print_item_layer section_part_layer stmt_layer case_layer line (r.expr target) (r.expr value))) refl
        (more (more (none (st.Assign line)) (each (expr target))) (each (expr value)))
    stmt_becomes (s.If line condition then_block else_block) n =
        as_is refl (sym (folds.fold_stmt-If _ _ _ _ _ _ array_item_layer expr_layer print_item_layer section_part_layer stmt_layer case_layer line (r.expr condition) (map r.stmt then_block) (map r.stmt else_block))) refl
        (more (more (more (none (st.If line)) (each (expr condition))) (all_stmts then_block)) (all_stmts else_block))
    stmt_becomes (s.Do line id variable lower upper step body) n =
        as_is refl (sym (folds.fold_stmt-Do _ _ _ _ _ _ array_item_layer expr_layer print_item_layer section_part_layer stmt_layer case_layer line id (r.expr variable) (r.expr lower) (r.expr upper) (r.expr step) (map r.stmt body))) refl
        (more (more (more (more (more (none (st.Do line id)) (each (expr variable))) (each (expr lower))) (each (expr upper))) (each (expr step))) (all_stmts body))
    stmt_becomes (s.While line id condition body) n =
        as_is refl (sym (folds.fold_stmt-While _ _ _ _ _ _ array_item_layer expr_layer print_item_layer section_part_layer stmt_layer case_layer line id (r.expr condition) (map r.stmt body))) refl
        (more (more (none (st.While line id)) (each (expr condition))) (all_stmts body))
    stmt_becomes (s.Exit line id) n =
        as_is refl (sym (folds.fold_stmt-Exit _ _ _ _ _ _ array_item_layer expr_layer print_item_layer section_part_layer stmt_layer case_layer line id)) refl
        (none (st.Exit line id))
    stmt_becomes (s.Cycle line id) n =
        as_is refl (sym (folds.fold_stmt-Cycle _ _ _ _ _ _ array_item_layer expr_layer print_item_layer section_part_layer stmt_layer case_layer line id)) refl
        (none (st.Cycle line id))
    stmt_becomes (s.Select line value cases default) n =
        as_is refl (sym (folds.fold_stmt-Select _ _ _ _ _ _ array_item_layer expr_layer print_item_layer section_part_layer stmt_layer case_layer line (r.expr value) (map (case_node r) cases) (map r.stmt default))) refl
        (more (more (more (none (st.Select line)) (each (expr value))) (several case_parts lowered_case (case_node r) (case_node q) case_becomes cases)) (all_stmts default))
    stmt_becomes (s.Call line callee arguments) n =
        as_is refl (sym (folds.fold_stmt-Call _ _ _ _ _ _ array_item_layer expr_layer print_item_layer section_part_layer stmt_layer case_layer line (path callee) (map r.expr arguments))) refl
        (more (none (st.Call line (path callee))) (all_exprs arguments))
    stmt_becomes (s.Read line target iostat) n =
        as_is refl (sym (folds.fold_stmt-Read _ _ _ _ _ _ array_item_layer expr_layer print_item_layer section_part_layer stmt_layer case_layer line (r.expr target) (option_map r.expr iostat))) refl
        (more (more (none (st.Read line)) (each (expr target))) (maybe iostat))
    stmt_becomes (s.Stop line error code) n =
        as_is refl (sym (folds.fold_stmt-Stop _ _ _ _ _ _ array_item_layer expr_layer print_item_layer section_part_layer stmt_layer case_layer line error (r.expr code))) refl
        (more (none (st.Stop line error)) (each (expr code)))
    stmt_becomes (s.Return line) n =
        as_is refl (sym (folds.fold_stmt-Return _ _ _ _ _ _ array_item_layer expr_layer print_item_layer section_part_layer stmt_layer case_layer line)) refl
        (none (st.Return line))
    stmt_becomes (s.Block line stmts) n =
        as_is refl (sym (folds.fold_stmt-Block _ _ _ _ _ _ array_item_layer expr_layer print_item_layer section_part_layer stmt_layer case_layer line (map r.stmt stmts))) refl
        (more (none (st.Block line)) (all_stmts stmts))
    stmt_becomes (s.Let line number value) n =
        as_is refl (sym (folds.fold_stmt-Let _ _ _ _ _ _ array_item_layer expr_layer print_item_layer section_part_layer stmt_layer case_layer line number (r.expr value))) refl
        (more (none (st.Let line number)) (each (expr value)))
    stmt_becomes (s.Room line number element len extents) n =
        as_is refl (sym (folds.fold_stmt-Room _ _ _ _ _ _ array_item_layer expr_layer print_item_layer section_part_layer stmt_layer case_layer line number (elem_node path element) (option_map r.expr len) (map r.expr extents))) refl
        (more (more (none (st.Room line number (elem_node path element))) (maybe len)) (all_exprs extents))
    stmt_becomes (s.Count line number bound body) n =
        as_is refl (sym (folds.fold_stmt-Count _ _ _ _ _ _ array_item_layer expr_layer print_item_layer section_part_layer stmt_layer case_layer line number (r.expr bound) (map r.stmt body))) refl
        (more (more (none (st.Count line number)) (each (expr bound))) (all_stmts body))
    stmt_becomes (s.Same line left right) n =
        as_is refl (sym (folds.fold_stmt-Same _ _ _ _ _ _ array_item_layer expr_layer print_item_layer section_part_layer stmt_layer case_layer line (r.expr left) (r.expr right))) refl
        (more (more (none (st.Same line)) (each (expr left))) (each (expr right)))
    stmt_becomes (s.Probe line designator) n =
        as_is refl (sym (folds.fold_stmt-Probe _ _ _ _ _ _ array_item_layer expr_layer print_item_layer section_part_layer stmt_layer case_layer line (r.expr designator))) refl
        (more (none (st.Probe line)) (each (expr designator)))
    stmt_becomes (s.Begin line number) n =
        as_is refl (sym (folds.fold_stmt-Begin _ _ _ _ _ _ array_item_layer expr_layer print_item_layer section_part_layer stmt_layer case_layer line number)) refl
        (none (st.Begin line number))
    stmt_becomes (s.Put line number value) n =
        as_is refl (sym (folds.fold_stmt-Put _ _ _ _ _ _ array_item_layer expr_layer print_item_layer section_part_layer stmt_layer case_layer line number (r.expr value))) refl
        (more (none (st.Put line number)) (each (expr value)))
    stmt_becomes (s.End line) n =
        as_is refl (sym (folds.fold_stmt-End _ _ _ _ _ _ array_item_layer expr_layer print_item_layer section_part_layer stmt_layer case_layer line)) refl
        (none (st.End line))

    pub node_becomes : (key : Key) (x : Node key) → values_at key x ≡ None → Becomes (parts key x) (lowered_tree key (node_tree path f key x)) (node_tree path g key x)
    node_becomes (expr id) x n = expr_becomes x
    node_becomes (stmt id) x n = stmt_becomes x n
