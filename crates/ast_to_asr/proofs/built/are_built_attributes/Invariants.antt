use Rattle.std.proofs.Common.{◌≡◌, drop}
use Rattle.std.specs.List.{list_all}
use Rattle.ast_to_asr.specs.Built.{is_built_attribute}
use Rattle.ast_to_asr.proofs.built.are_built_attributes.Given as goal

abbrev pub invariant-loop-attribute : goal.invariant-loop-attribute
invariant-loop-attribute l = list_all is_built_attribute (drop l.attribute-index l.attributes) ≡ list_all is_built_attribute l.attributes
