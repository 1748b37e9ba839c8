use Rattle.std.proofs.Common.{◌≡◌, [], ◌∷◌, codes, IfSome, sym, ap, subst, ◌∙◌}
use Rattle.lf_base.specs.Contents.{joined}
use Rattle.symtab_arena.specs.Paths.{path_of}
use Rattle.asr_nodes.specs.Shapes.{shown, thing_text, link_text}
use Rattle.asr_nodes.specs.Text.{stmt_text}
use Rattle.asr_nodes.specs.declared.print.link.Link.{Link}
use Rattle.asr_nodes.proofs.print.link.next_link.Goals as goal

pub returns-in-Stmt-clause-text : goal.returns-in-Stmt-clause-text
returns-in-Stmt-clause-text c =
    let r = shown c.args.asr.now in
    let is = ap (thing_text r) c.in-Stmt.is ∙ ap stmt_text (c.stmt.ensures.tree (path_of c.args.asr.now.scopes)) in
    subst (λ t. IfSome c.link_of.result (λ (link : Link). t ≡ joined (link_text r link.fields ∷ stmt_text (r.reading.stmt link.next) ∷ codes "])" ∷ []))) (sym is) (c.link_of.ensures r)
