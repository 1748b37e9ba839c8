-- The names that a C file has for the entities, temporaries and loops of a program.
use Rattle.std.specs.Prelude.{ℕ, List, [], ◌∷◌, ◌++◌, length, codes}
use Rattle.std.specs.Fmt.{decimal}
use Rattle.asr_nodes.specs.Reading.{Path}

-- one name of a path, behind its length
abbrev pub name_part : List ℕ → List ℕ
name_part name = codes "_" ++ (decimal (length name) ++ (codes "_" ++ name))

abbrev pub name_parts : Path → List ℕ
name_parts [] = []
name_parts (name ∷ more) = name_part name ++ name_parts more

-- an entity by its path from its unit on: `lf_1_m_5_twice` for twice of m
abbrev pub entity_name : Path → List ℕ
entity_name path = codes "lf" ++ name_parts path

-- the function that gives the variables of a unit their first values
abbrev pub init_name : List ℕ → List ℕ
init_name name = entity_name (name ∷ []) ++ codes "_init"

-- the values of a function in the order in which they are computed: `t1`, `t2` and so on
abbrev pub value_name : ℕ → List ℕ
value_name number = codes "t" ++ decimal number

-- the temporary that the tree knows by this number
abbrev pub temp_name : ℕ → List ℕ
temp_name number = codes "r" ++ decimal number

-- where a turn of the loop of this number ends, and where the loop does
abbrev pub cycle_label : ℕ → List ℕ
cycle_label id = codes "c" ++ decimal id

abbrev pub exit_label : ℕ → List ℕ
exit_label id = codes "e" ++ decimal id
