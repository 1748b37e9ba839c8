use Rattle.std.proofs.Common.{◌≡◌, ℕ, List, ◌<◌, length, slice_get, Some, ap, sym, subst, ◌∙◌}
use Rattle.std.proofs.lemmas.List.{length-map}
use Rattle.lf_base.specs.declared.id.SymId.{SymId}
use Rattle.symtab_arena.specs.Scopes.{names_in, symbol_in_place}
use Rattle.asr_nodes.proofs.Entities.{listed_at}
use Rattle.asr_nodes.specs.Reading.{section_part_node, array_item_node, print_item_node, case_node}
use Rattle.asr_nodes.specs.Shapes.{shown, entity_text, group_length, group_texts}
use Rattle.asr_nodes.specs.Text.{expr_text, stmt_text, section_part_text, array_item_text, print_item_text, case_text, range_text, dim_text}
use Rattle.asr_nodes.proofs.Missing.{text_at, one_at, there_at, stands_at}
use Rattle.asr_nodes.proofs.print.node.thing_at.Goals as goal

pub returns-in-Exprs : goal.returns-in-Exprs
returns-in-Exprs c = let r = shown c.args.asr.now in ap (λ g. slice_get (group_texts r g) c.args.place) c.in-Exprs.is ∙ text_at expr_text r.reading.expr _ c.args.place _ c.at.ensures

pub returns-in-Stmts : goal.returns-in-Stmts
returns-in-Stmts c = let r = shown c.args.asr.now in ap (λ g. slice_get (group_texts r g) c.args.place) c.in-Stmts.is ∙ text_at stmt_text r.reading.stmt _ c.args.place _ (there_at _ _ c.args.place _ c.as_slice.ensures (subst (λ g. c.args.place < group_length (shown c.args.asr.now) g) c.in-Stmts.is c.requires))

pub returns-in-Parts : goal.returns-in-Parts
returns-in-Parts c = let r = shown c.args.asr.now in ap (λ g. slice_get (group_texts r g) c.args.place) c.in-Parts.is ∙ text_at section_part_text (section_part_node r.reading) _ c.args.place _ (there_at _ _ c.args.place _ c.as_slice-in-Parts.ensures (subst (λ g. c.args.place < group_length (shown c.args.asr.now) g) c.in-Parts.is c.requires))

pub returns-in-Values : goal.returns-in-Values
returns-in-Values c = let r = shown c.args.asr.now in ap (λ g. slice_get (group_texts r g) c.args.place) c.in-Values.is ∙ text_at array_item_text (array_item_node r.reading) _ c.args.place _ (stands_at _ _ c.args.place _ c.as_slice-in-Values.ensures (subst (λ g. c.args.place < group_length (shown c.args.asr.now) g) c.in-Values.is c.requires) c.index-as_slice-place.is)

pub returns-in-Outputs : goal.returns-in-Outputs
returns-in-Outputs c = let r = shown c.args.asr.now in ap (λ g. slice_get (group_texts r g) c.args.place) c.in-Outputs.is ∙ text_at print_item_text (print_item_node r.reading) _ c.args.place _ (stands_at _ _ c.args.place _ c.as_slice-in-Outputs.ensures (subst (λ g. c.args.place < group_length (shown c.args.asr.now) g) c.in-Outputs.is c.requires) c.index-as_slice-place-in-Outputs.is)

pub returns-in-Cases : goal.returns-in-Cases
returns-in-Cases c = let r = shown c.args.asr.now in ap (λ g. slice_get (group_texts r g) c.args.place) c.in-Cases.is ∙ text_at case_text (case_node r.reading) _ c.args.place _ (stands_at _ _ c.args.place _ c.as_slice-in-Cases.ensures (subst (λ g. c.args.place < group_length (shown c.args.asr.now) g) c.in-Cases.is c.requires) c.index-as_slice-place-in-Cases.is)

pub returns-in-Ranges : goal.returns-in-Ranges
returns-in-Ranges c = let r = shown c.args.asr.now in ap (λ g. slice_get (group_texts r g) c.args.place) c.in-Ranges.is ∙ one_at range_text _ c.args.place _ (stands_at _ _ c.args.place _ c.as_slice-in-Ranges.ensures (subst (λ g. c.args.place < group_length (shown c.args.asr.now) g) c.in-Ranges.is c.requires) c.index-as_slice-place-in-Ranges.is)

pub returns-in-Inits : goal.returns-in-Inits
returns-in-Inits c = let r = shown c.args.asr.now in ap (λ g. slice_get (group_texts r g) c.args.place) c.in-Inits.is ∙ text_at expr_text r.reading.expr _ c.args.place _ (there_at _ _ c.args.place _ c.as_slice-in-Inits.ensures (subst (λ g. c.args.place < group_length (shown c.args.asr.now) g) c.in-Inits.is c.requires))

pub returns-in-Dims : goal.returns-in-Dims
returns-in-Dims c = let r = shown c.args.asr.now in ap (λ g. slice_get (group_texts r g) c.args.place) c.in-Dims.is ∙ one_at dim_text _ c.args.place _ (there_at _ _ c.args.place _ c.as_slice-in-Dims.ensures (subst (λ g. c.args.place < group_length (shown c.args.asr.now) g) c.in-Dims.is c.requires))

pub returns-in-Table : goal.returns-in-Table
returns-in-Table c =
    let r = shown c.args.asr.now in
    ap (λ g. slice_get (group_texts r g) c.args.place) c.in-Table.is
    ∙ listed_at (entity_text c.args.asr.now) (λ (e : List ℕ × SymId). e.1) (names_in c.args.asr.now.scopes c.in-Table.table) c.args.place _ (subst (λ s. symbol_in_place s c.in-Table.table c.args.place ≡ Some c.nth.result) c.arena.ensures c.nth.ensures.listed)

pub nth-requires : goal.nth-requires
nth-requires c =
    subst (λ s. c.args.place < length (names_in s c.in-Table.table)) (sym c.arena.ensures)
    (subst (λ n. c.args.place < n) (length-map (names_in c.args.asr.now.scopes c.in-Table.table) (λ e. entity_text c.args.asr.now e.1))
    (subst (λ g. c.args.place < group_length (shown c.args.asr.now) g) c.in-Table.is c.requires))
