use Rattle.std.proofs.Common.{◌≡◌, drop, map}
use Rattle.ast_to_asr.specs.Built.{first_in, unbuilt_declaration}
use Rattle.ast_to_asr.proofs.built.unbuilt_declarations.Given as goal

abbrev pub invariant-loop-declaration : goal.invariant-loop-declaration
invariant-loop-declaration l = first_in (map unbuilt_declaration (drop l.declaration-index l.declarations)) ≡ first_in (map unbuilt_declaration l.declarations)
