-- No nodes, and the root table with no symbol.
use Rattle.std.proofs.Common.{◌≡◌, List, [], Some, None, is_some, true, sym, ap, subst, true≢false}
use Rattle.symtab_arena.specs.Scopes.{Scopes, the_root}
use Rattle.asr_nodes.specs.Keys.{Key, expr, stmt, Node}
use Rattle.asr_nodes.specs.Nodes.{Nodes, Sound, empty, node_at, node_count}
use Rattle.asr_nodes.specs.Noted.{Noted}
use Rattle.asr_nodes.specs.Parts.{parts}
use Rattle.asr_nodes.specs.Walks.{ends}
use Rattle.asr_nodes.specs.declared.node.Expr.{Expr}
use Rattle.asr_nodes.specs.declared.node.Stmt.{Stmt}
use Rattle.asr_nodes.specs.declared.node.Symbol.{Symbol}

none_is : {A : Type 0} (x : A) → None ≡ Some x → ⊥
none_is x e = true≢false (sym (ap is_some e))

no_node : (key : Key) (x : Node key) → node_at empty key ≡ Some x → ends parts (λ _. true) (node_at empty) (node_count empty) key ≡ true
no_node (expr id) x e = absurd (none_is x e)
no_node (stmt id) x e = absurd (none_is x e)

empty_sound : Sound empty
empty_sound = record {
  founded = record { ends_from = no_node };
  owned = λ id it e. absurd (none_is it e);
  units = λ id it e. absurd (none_is it e);
  named = λ id it e. absurd (none_is it e);
}

pub new_sound : (scopes : Scopes Symbol) (exprs : List Expr) (stmts : List Stmt) (noted : Noted) → scopes ≡ the_root → exprs ≡ [] → stmts ≡ [] → noted ≡ [] → Sound (record { scopes = scopes; exprs = exprs; stmts = stmts; noted = noted })
new_sound scopes exprs stmts noted a b c d = subst (λ (n : Nodes). Sound n) (λ k. record { scopes = sym a k; exprs = sym b k; stmts = sym c k; noted = sym d k }) empty_sound
