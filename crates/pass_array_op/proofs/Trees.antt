-- What becomes of trees where records stand in the place of all output statements that are lowered.
use Rattle.std.proofs.Common.{◌≡◌, ℕ, zero, suc, ◌==◌, Bool, true, false, if◌then◌else◌, List, [], ◌∷◌, ◌++◌, map, length, Option, Some, None, option_map, is_some, refl, sym, ap, subst, ◌∙◌, true≢false, append-nil}
use Rattle.std.specs.List.{list_all}
use Rattle.std.specs.Option.{option_map_or}
use Rattle.std.proofs.lemmas.Bool.{and_parts}
use Rattle.lf_base.specs.declared.id.ExprId.{ExprId}
use Rattle.lf_base.specs.declared.id.StmtId.{StmtId}
use Rattle.lf_base.specs.declared.id.SymId.{SymId}
use Rattle.asr_nodes.specs.Keys.{Key, expr, stmt, Node, Tree, exprs, stmts, chained}
use Rattle.asr_nodes.specs.Nodes.{Nodes, Sound, node_at, node_count, tree_at, stmt_tree, reads, there}
use Rattle.asr_nodes.specs.Parts.{parts, print_item_parts}
use Rattle.asr_nodes.specs.Parts as parts_of
use Rattle.asr_nodes.specs.Reading.{Path, Reading, reading, node_tree, no_tree, stmt_node, print_item_node}
use Rattle.asr_nodes.specs.Visits.{visits, visits_node}
use Rattle.asr_nodes.specs.Walks.{ends, made, tree_within}
use Rattle.asr_nodes.specs.declared.code.TheConstants.{FORMAT_LIST as list_form}
use Rattle.asr_nodes.specs.declared.node.PrintItem.{PrintItem, PrintItem-F, fold-roll-PrintItem}
use Rattle.asr_nodes.specs.declared.node.PrintItem.TheVariants as pi
use Rattle.asr_nodes.specs.declared.node.Stmt.{Stmt}
use Rattle.asr_nodes.specs.declared.node.Stmt.TheVariants as s
use Rattle.asr_nodes.specs.declared.tree.StmtTree.TheVariants as st
use Rattle.asr_nodes.proofs.Grows.{tree_here, all_end}
use Rattle.asr_nodes.proofs.PrintItems as print_items
use Rattle.asr_nodes.proofs.TreeFolds as folds
use Rattle.asr_nodes.proofs.Walks.{seen}
use Rattle.pass_array_op.specs.Drawing.{plain, taking, in_turn, some}
use Rattle.pass_array_op.specs.Lowering.{whole, values_in, recorded, record_of, array_item_layer, expr_layer, print_item_layer, section_part_layer, stmt_layer, case_layer, lowered_expr, lowered_item, lowered_stmt, lowered_body}
use Rattle.pass_array_op.specs.Prints.{value_of, value_layer, values_of, values_put, values_at, behind_value, number_of, prints, puts, record_nodes, Keeps, AreRecords}
use Rattle.pass_array_op.proofs.Becoming.{Becomes, found, lowered_tree, node_becomes, all_exprs, all_stmts, same_values}

pub none_some : {A : Type 0} (x : A) → None ≡ Some x → ⊥
none_some x e = true≢false (sym (ap is_some e))

pub some_same : {A : Type 0} (x y : A) → Some x ≡ Some y → x ≡ y
some_same x y e = cc

put_trees : (q : Reading) (line number : ℕ) (values : List ExprId) → map (stmt_node q) (puts line number values) ≡ map (st.Put line number) (map q.expr values) ++ st.End line ∷ []
put_trees q line number [] = refl
put_trees q line number (v ∷ vs) = ap (λ l. st.Put line number (q.expr v) ∷ l) (put_trees q line number vs)

abbrev HasValueParts : PrintItem → Type 0
HasValueParts x = (v : ExprId) → value_of x ≡ Some v → print_item_parts x ≡ expr v ∷ []

value_parts : (x : PrintItem) → HasValueParts x
value_parts = print_items.by_cases HasValueParts (record {
  value = λ value v e.
      ap print_item_parts (sym (pi.rolls-Value value)) ∙ fold-roll-PrintItem (List Key) parts_of.print_item_layer (PrintItem-F.Value value)
      ∙ ap (λ w. expr w ∷ []) (some_same value v (sym (ap value_of (sym (pi.rolls-Value value)) ∙ fold-roll-PrintItem (Option ExprId) value_layer (PrintItem-F.Value value)) ∙ e));
  loop = λ variable lower upper step items h v e.
      absurd (none_some v (sym (ap value_of (sym (pi.rolls-Loop variable lower upper step items)) ∙ fold-roll-PrintItem (Option ExprId) value_layer (PrintItem-F.Loop variable lower upper step items)) ∙ e));
})

-- A list of values has these as its parts.
pub values_parts : (xs : List PrintItem) (vs : List ExprId) → values_of xs ≡ Some vs → chained (map print_item_parts xs) ≡ exprs vs
values_parts [] vs e = ap exprs (some_same [] vs e)
values_parts (x ∷ xs) vs e = by (value_of x) refl (values_of xs) (values_parts xs) e
  where
    by : (o : Option ExprId) → value_of x ≡ o → (os : Option (List ExprId)) → ((ws : List ExprId) → os ≡ Some ws → chained (map print_item_parts xs) ≡ exprs ws) → behind_value o os ≡ Some vs → chained (map print_item_parts (x ∷ xs)) ≡ exprs vs
    by None p os q e = absurd (none_some vs e)
    by (Some v) p None q e = absurd (none_some vs e)
    by (Some v) p (Some ws) q e = (λ i. value_parts x v p i ++ q ws refl i) ∙ ap exprs (some_same (v ∷ ws) vs e)

module _ (old new : Nodes) (h : Sound old) (k : Sound new) (keeps : Keeps old new) (path : SymId → Path) where
  abbrev told : ℕ → (key : Key) → Tree key
  told n = tree_within (node_tree path) no_tree (node_at old) n

  abbrev tnew : (key : Key) → Tree key
  tnew = tree_at new path

  block_trees : (ids : List StmtId) (xs : List Stmt) → map (λ i. node_at new (stmt i)) ids ≡ map some xs → map (stmt_tree new path) ids ≡ map (stmt_node (reads new path)) xs
  block_trees [] [] e = refl
  block_trees [] (x ∷ xs) e = absurd (cc)
  block_trees (i ∷ ids) [] e = absurd (cc)
  block_trees (i ∷ ids) (x ∷ xs) e =
      let p : node_at new (stmt i) ≡ Some x = cc in
      let q : map (λ i. node_at new (stmt i)) ids ≡ map some xs = cc in
      λ j. tree_here new k path (stmt i) x p j ∷ block_trees ids xs q j

  visited : (n : ℕ) (key : Key) (x : Node key) → node_at old key ≡ Some x → found old new (suc n) (key ∷ []) ≡ number_of key (Some x) ++ found old new n (parts key x)
  visited n key x ex =
      ap (λ l. prints old (l ++ [])) (ap (made (visits_node (tree_within visits_node (λ key. []) (node_at old) n) key) []) ex)
      ∙ ap (λ l. prints old (key ∷ l)) (append-nil (chained (map (tree_within visits_node (λ key. []) (node_at old) n) (parts key x))))
      ∙ ap (λ o. number_of key o ++ found old new n (parts key x)) ex

  told_is : (n : ℕ) (key : Key) (x : Node key) → node_at old key ≡ Some x → told (suc n) key ≡ node_tree path (told n) key x
  told_is n key x ex = ap (made (node_tree path (told n) key) (no_tree key)) ex

  none_drawn : (key : Key) (x : Node key) → values_at key x ≡ None → number_of key (Some x) ≡ []
  none_drawn (expr id) x v = refl
  none_drawn (stmt id) x v = ap (λ o. option_map_or (λ values. id ∷ []) o []) v

  module _ (n : ℕ) (each : (key : Key) → Becomes old new n (key ∷ []) (lowered_tree key (told n key)) (tnew key)) where
    abbrev r : Reading
    r = reading path (told n)

    kept_here : (key : Key) (x : Node key) → node_at old key ≡ Some x → values_at key x ≡ None → list_all (ends parts (λ _. true) (node_at old) n) (parts key x) ≡ true → Becomes old new (suc n) (key ∷ []) (lowered_tree key (told (suc n) key)) (tnew key)
    kept_here key x ex v pe =
        let b = node_becomes old new n path (told n) tnew each key x v in
        let f = visited n key x ex ∙ ap (λ l. l ++ found old new n (parts key x)) (none_drawn key x v) in
        let t = told_is n key x ex in
        record {
          counts = λ e. ap (λ t. (lowered_tree key t).count) t ∙ b.counts pe ∙ ap length (sym f);
          is = λ e first r.
              tree_here new k path key x (keeps key x ex v) ∙ b.is pe first (subst (AreRecords old new first) f r) ∙ sym (ap (λ t. (lowered_tree key t).from first) t);
        }

    print_is : (line form advance : ℕ) (items : List PrintItem) (values : List ExprId) → (form == list_form) ≡ true → values_of items ≡ Some values → lowered_stmt (stmt_node r (s.Print line form advance items)) ≡ recorded line (in_turn (map lowered_expr (map r.expr values)))
    print_is line form advance items values e v =
        folds.fold_stmt-Print _ _ _ _ _ _ array_item_layer expr_layer print_item_layer section_part_layer stmt_layer case_layer line form advance (map (print_item_node r) items)
        ∙ ap (λ t. if t then option_map_or (λ values. recorded line (in_turn values)) (values_in (map lowered_item (map (print_item_node r) items))) (taking (plain (st.Print line form advance)) (in_turn (map whole (map lowered_item (map (print_item_node r) items))))) else taking (plain (st.Print line form advance)) (in_turn (map whole (map lowered_item (map (print_item_node r) items))))) e
        ∙ ap (λ o. option_map_or (λ values. recorded line (in_turn values)) o (taking (plain (st.Print line form advance)) (in_turn (map whole (map lowered_item (map (print_item_node r) items)))))) (same_values old new n path (told n) tnew each items ∙ ap (option_map (λ vs. map lowered_expr (map r.expr vs))) v)

    print_here : (id : StmtId) (line form advance : ℕ) (items : List PrintItem) (values : List ExprId) (t : Bool) → (form == list_form) ≡ t → node_at old (stmt id) ≡ Some (s.Print line form advance items) → (if t then values_of items else None) ≡ Some values → list_all (ends parts (λ _. true) (node_at old) n) (chained (map print_item_parts items)) ≡ true → Becomes old new (suc n) (stmt id ∷ []) (lowered_stmt (told (suc n) (stmt id))) (tnew (stmt id))
    print_here id line form advance items values false t ex v pe = absurd (none_some values v)
    print_here id line form advance items values true t ex v pe =
        let b = all_exprs old new n path (told n) tnew each values in
        let p = values_parts items values v in
        let ends_all = subst (λ l. list_all (ends parts (λ _. true) (node_at old) n) l ≡ true) p pe in
        let put : values_put (s.Print line form advance items) ≡ Some values = ap (λ t. if t then values_of items else None) t ∙ v in
        let f = visited n (stmt id) (s.Print line form advance items) ex
        ∙ ap (λ o. option_map_or (λ values. id ∷ []) o [] ++ found old new n (chained (map print_item_parts items))) put
        ∙ ap (λ l. id ∷ found old new n l) p in
        let low = ap lowered_stmt (told_is n (stmt id) (s.Print line form advance items) ex) ∙ print_is line form advance items values t v in
        record {
          counts = λ e. ap (λ d. d.count) low ∙ ap suc (b.counts ends_all) ∙ ap length (sym f);
          is = λ e first records.
              let w = subst (AreRecords old new first) f records in
              let z = w.0.stands (s.Print line form advance items) values ex put in
              tree_here new k path (stmt id) (s.Block line z.0) z.1
              ∙ ap (st.Block line) (block_trees z.0 (record_nodes line first values) z.2)
              ∙ ap (λ l. st.Block line (st.Begin line first ∷ l)) (put_trees (reads new path) line first values)
              ∙ ap (record_of line first) (b.is ends_all (suc first) w.1)
              ∙ sym (ap (λ d. d.from first) low);
        }

    record_here : (id : StmtId) (x : Stmt) (values : List ExprId) → node_at old (stmt id) ≡ Some x → values_put x ≡ Some values → list_all (ends parts (λ _. true) (node_at old) n) (parts (stmt id) x) ≡ true → Becomes old new (suc n) (stmt id ∷ []) (lowered_stmt (told (suc n) (stmt id))) (tnew (stmt id))
    record_here id (s.Print line form advance items) values ex v pe = print_here id line form advance items values (form == list_form) refl ex v pe
    record_here at (s.Assign line target value) values ex v pe = absurd (none_some values v)
    record_here at (s.If line condition then_block else_block) values ex v pe = absurd (none_some values v)
    record_here at (s.Do line id variable lower upper step body) values ex v pe = absurd (none_some values v)
    record_here at (s.While line id condition body) values ex v pe = absurd (none_some values v)
    record_here at (s.Exit line id) values ex v pe = absurd (none_some values v)
    record_here at (s.Cycle line id) values ex v pe = absurd (none_some values v)
    record_here at (s.Select line value cases default) values ex v pe = absurd (none_some values v)
    record_here at (s.Call line callee arguments) values ex v pe = absurd (none_some values v)
    record_here at (s.Read line target iostat) values ex v pe = absurd (none_some values v)
    record_here at (s.Stop line error code) values ex v pe = absurd (none_some values v)
    record_here at (s.Return line) values ex v pe = absurd (none_some values v)
    record_here at (s.Block line stmts) values ex v pe = absurd (none_some values v)
    record_here at (s.Let line number value) values ex v pe = absurd (none_some values v)
    record_here at (s.Room line number element len extents) values ex v pe = absurd (none_some values v)
    record_here at (s.Count line number bound body) values ex v pe = absurd (none_some values v)
    record_here at (s.Same line left right) values ex v pe = absurd (none_some values v)
    record_here at (s.Probe line designator) values ex v pe = absurd (none_some values v)
    record_here at (s.Begin line number) values ex v pe = absurd (none_some values v)
    record_here at (s.Put line number value) values ex v pe = absurd (none_some values v)
    record_here at (s.End line) values ex v pe = absurd (none_some values v)

    here : (key : Key) (x : Node key) (o : Option (List ExprId)) → values_at key x ≡ o → node_at old key ≡ Some x → list_all (ends parts (λ _. true) (node_at old) n) (parts key x) ≡ true → Becomes old new (suc n) (key ∷ []) (lowered_tree key (told (suc n) key)) (tnew key)
    here key x None v ex pe = kept_here key x ex v pe
    here (expr id) x (Some values) v ex pe = absurd (none_some values v)
    here (stmt id) x (Some values) v ex pe = record_here id x values ex v pe

    opened : (key : Key) → list_all (ends parts (λ _. true) (node_at old) (suc n)) (key ∷ []) ≡ true → (x : Node key) × (node_at old key ≡ Some x) × (list_all (ends parts (λ _. true) (node_at old) n) (parts key x) ≡ true)
    opened key e =
        let a = (and_parts _ _ e).0 in
        seen (λ x. list_all (ends parts (λ _. true) (node_at old) n) (parts key x)) (node_at old key) a

    step : (key : Key) → Becomes old new (suc n) (key ∷ []) (lowered_tree key (told (suc n) key)) (tnew key)
    step key = record {
      counts = λ e. let z = opened key e in (here key z.0 (values_at key z.0) refl z.1 z.2).counts e;
      is = λ e. let z = opened key e in (here key z.0 (values_at key z.0) refl z.1 z.2).is e;
    }

  lowers : (n : ℕ) (key : Key) → Becomes old new n (key ∷ []) (lowered_tree key (told n key)) (tnew key)
  lowers zero key = record { counts = λ e. absurd (true≢false (sym e)); is = λ e. absurd (true≢false (sym e)) }
  lowers (suc n) key = step n (lowers n) key

  pub body_lowers : (body : List StmtId) (number : ℕ) → there old (stmts body) ≡ true → AreRecords old new number (prints old (visits old (stmts body))) → map (stmt_tree new path) body ≡ (lowered_body (map (stmt_tree old path) body)).from number
  body_lowers body number t r = (all_stmts old new (node_count old) path (told (node_count old)) tnew (lowers (node_count old)) body).is (all_end old h (stmts body) t) number r
