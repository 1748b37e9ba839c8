-- The names behind ends and parts, which are those of what is open (ISO/IEC 1539-1:2018, 11.1.7.4, 11.1.8, 11.1.9, 14.1, 14.2, 15.6.2).
use Rattle.std.specs.Prelude.{ℕ, Bool, true, false, List, Option, Some, None, nat_le, length}
use Rattle.ff_forms.specs.declared.form.Form.{Form}
use Rattle.ff_forms.specs.declared.form.Form.TheVariants as form
use Rattle.ff_parser.specs.Pieces.{agrees}
use Rattle.ff_parser.specs.declared.nest.ScopeKind.{ScopeKind}
use Rattle.ff_parser.specs.declared.nest.ScopeKind.TheVariants as kind
use Rattle.ff_parser.specs.declared.nest.Definition.{Definition}
use Rattle.ff_parser.specs.declared.nest.Definition.TheVariants as definition
use Rattle.ff_parser.specs.declared.nest.Nest.{Nest}
use Rattle.ff_parser.specs.declared.nest.Nest.TheVariants as nest

abbrev pub name_of : ScopeKind → List ℕ
name_of (kind.Unit name is_module procs) = name
name_of (kind.Procedure header host) = header.name

abbrev pub name_of_definition : Definition → List ℕ
name_of_definition (definition.Type line name access components) = name
name_of_definition (definition.Interface line name names) = name

-- the name that an end or a part of a construct says
abbrev pub said : Form → Option (List ℕ)
said (form.End end name) = name
said (form.ElseIf construct condition) = construct
said (form.Else construct) = construct
said (form.Case construct is_default ranges) = construct
said _ = None

-- the name of what is open, where it has one
abbrev pub own_name : Nest → Option (List ℕ)
own_name (nest.Outside units) = None
own_name (nest.Scope units scope) = Some (name_of scope.kind)
own_name (nest.Definition units scope definition) = Some (name_of_definition definition)
own_name (nest.Construct units scope level around) = level.construct

-- a statement names nothing else than what it stands in
abbrev pub is_named : Nest → Form → Bool
is_named n f = agrees (said f) (own_name n)

-- the most constructs that are open around the innermost one; with it they are 64
abbrev pub greatest_around : ℕ
greatest_around = 63

abbrev pub begins_construct : Form → Bool
begins_construct (form.IfThen construct condition) = true
begins_construct (form.Do construct variable lower upper step) = true
begins_construct (form.While construct condition) = true
begins_construct (form.Select construct value) = true
begins_construct _ = false

abbrev pub is_full : Nest → Bool
is_full (nest.Construct units scope level around) = nat_le greatest_around (length around)
is_full _ = false
