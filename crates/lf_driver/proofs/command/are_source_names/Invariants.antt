use Rattle.std.specs.Prelude.{◌≡◌, drop, map, string_bytes}
use Rattle.std.specs.List.{list_all}
use Rattle.lf_driver.specs.Words.{is_source_name}
use Rattle.lf_driver.proofs.command.are_source_names.Given as goal

abbrev pub invariant-loop-file : goal.invariant-loop-file
invariant-loop-file l = list_all is_source_name (map string_bytes (drop l.file-index l.files)) ≡ list_all is_source_name (map string_bytes l.files)
