-- Small trees, to read the definition by.
use Rattle.std.specs.Prelude.{ℕ, List, [], ◌∷◌}
use Rattle.asr_nodes.specs.Examples.{literal}
use Rattle.asr_nodes.specs.declared.tree.ExprTree.TheVariants as et
use Rattle.asr_nodes.specs.declared.tree.PrintItemTree.{PrintItemTree}
use Rattle.asr_nodes.specs.declared.tree.PrintItemTree.TheVariants as pit
use Rattle.asr_nodes.specs.declared.tree.StmtTree.{StmtTree}
use Rattle.asr_nodes.specs.declared.tree.StmtTree.TheVariants as st

abbrev pub value : ℕ → PrintItemTree
value n = pit.Value (literal n)

-- print *, 5, 6; if (.true.) then; print *, 7; end if; print '(I0)', 8; print *, (9, x = 1, 2)
abbrev pub before : List StmtTree
before =
    st.Print 2 0 1 (value 5 ∷ value 6 ∷ [])
    ∷ st.If 3 (et.LogConst 1) (st.Print 4 0 1 (value 7 ∷ []) ∷ []) []
    ∷ st.Print 6 2 1 (value 8 ∷ [])
    ∷ st.Print 7 0 1 (pit.Loop (et.Var []) (literal 1) (literal 2) (literal 1) (value 9 ∷ []) ∷ [])
    ∷ []

abbrev pub after : List StmtTree
after =
    st.Block 2 (st.Begin 2 4 ∷ st.Put 2 4 (literal 5) ∷ st.Put 2 4 (literal 6) ∷ st.End 2 ∷ [])
    ∷ st.If 3 (et.LogConst 1) (st.Block 4 (st.Begin 4 5 ∷ st.Put 4 5 (literal 7) ∷ st.End 4 ∷ []) ∷ []) []
    ∷ st.Print 6 2 1 (value 8 ∷ [])
    ∷ st.Print 7 0 1 (pit.Loop (et.Var []) (literal 1) (literal 2) (literal 1) (value 9 ∷ []) ∷ [])
    ∷ []
