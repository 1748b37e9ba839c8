use Rattle.std.proofs.Common.{◌≡◌, drop}
use Rattle.std.specs.List.{list_all}
use Rattle.ast_to_asr.specs.Built.{is_built_entity}
use Rattle.ast_to_asr.proofs.built.are_built_entities.Given as goal

abbrev pub invariant-loop-entity : goal.invariant-loop-entity
invariant-loop-entity l = list_all is_built_entity (drop l.entity-index l.entities) ≡ list_all is_built_entity l.entities
