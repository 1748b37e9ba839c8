-- Two folds over trees are related, where they are layer by layer.
use Rattle.std.proofs.Common.{◌≡◌, List, [], ◌∷◌, map, Some, None, refl, sym, ap, subst, ◌∙◌}
use Rattle.asr_nodes.specs.declared.tree.ArrayItemTree.{ArrayItemTree, ArrayItemTree-F, map-ArrayItemTree, roll-ArrayItemTree, fold-ArrayItemTree, fold-roll-ArrayItemTree}
use Rattle.asr_nodes.specs.declared.tree.ExprTree.{ExprTree, ExprTree-F, map-ExprTree, roll-ExprTree, fold-ExprTree, fold-roll-ExprTree, ind-ExprTree}
use Rattle.asr_nodes.specs.declared.tree.PrintItemTree.{PrintItemTree, PrintItemTree-F, map-PrintItemTree, roll-PrintItemTree, fold-PrintItemTree, fold-roll-PrintItemTree}
use Rattle.asr_nodes.specs.declared.tree.SectionPartTree.{SectionPartTree, SectionPartTree-F, map-SectionPartTree, roll-SectionPartTree, fold-SectionPartTree, fold-roll-SectionPartTree}
use Rattle.asr_nodes.specs.declared.tree.StmtTree.{StmtTree, StmtTree-F, map-StmtTree, roll-StmtTree, fold-StmtTree, fold-roll-StmtTree, ind-StmtTree}
use Rattle.asr_nodes.specs.declared.tree.CaseTree.{CaseTree, CaseTree-F, map-CaseTree, roll-CaseTree, fold-CaseTree, fold-roll-CaseTree}

twice : {X Y Z : Type 0} (g : Y → Z) (f : X → Y) (xs : List X) → map g (map f xs) ≡ map (λ x. g (f x)) xs
twice g f [] = refl
twice g f (x ∷ xs) = ap (λ ys. g (f x) ∷ ys) (twice g f xs)

-- Parts that are mapped twice.
module _ (A B C D E F A' B' C' D' E' F' A'' B'' C'' D'' E'' F'' : Type 0) (fA : A → A') (fB : B → B') (fC : C → C') (fD : D → D') (fE : E → E') (fF : F → F') (gA : A' → A'') (gB : B' → B'') (gC : C' → C'') (gD : D' → D'') (gE : E' → E'') (gF : F' → F'') where
  abbrev hA : A → A''
  hA x = gA (fA x)

  abbrev hB : B → B''
  hB x = gB (fB x)

  abbrev hC : C → C''
  hC x = gC (fC x)

  abbrev hD : D → D''
  hD x = gD (fD x)

  abbrev hE : E → E''
  hE x = gE (fE x)

  abbrev hF : F → F''
  hF x = gF (fF x)

  then_array_item : (y : ArrayItemTree-F A B C D E F) → map-ArrayItemTree A' B' C' D' E' F' A'' B'' C'' D'' E'' F'' gA gB gC gD gE gF (map-ArrayItemTree A B C D E F A' B' C' D' E' F' fA fB fC fD fE fF y) ≡ map-ArrayItemTree A B C D E F A'' B'' C'' D'' E'' F'' hA hB hC hD hE hF y
  then_array_item (ArrayItemTree-F.«ArrayItemTree::Value» value) = refl
  then_array_item (ArrayItemTree-F.«ArrayItemTree::Loop» number lower upper step items) = λ k. ArrayItemTree-F.«ArrayItemTree::Loop» number lower upper step (twice gA fA items k)

  then_expr : (y : ExprTree-F A B C D E F) → map-ExprTree A' B' C' D' E' F' A'' B'' C'' D'' E'' F'' gA gB gC gD gE gF (map-ExprTree A B C D E F A' B' C' D' E' F' fA fB fC fD fE fF y) ≡ map-ExprTree A B C D E F A'' B'' C'' D'' E'' F'' hA hB hC hD hE hF y
  then_expr (ExprTree-F.IntConst kind value) = refl
  then_expr (ExprTree-F.LogConst value) = refl
  then_expr (ExprTree-F.CharConst bytes) = refl
  then_expr (ExprTree-F.Var symbol) = refl
  then_expr (ExprTree-F.Item base subscripts) = λ k. ExprTree-F.Item (hB base) (twice gB fB subscripts k)
  then_expr (ExprTree-F.Section base parts) = λ k. ExprTree-F.Section (hB base) (twice gD fD parts k)
  then_expr (ExprTree-F.Field base component) = refl
  then_expr (ExprTree-F.Substring base None None) = refl
  then_expr (ExprTree-F.Substring base None (Some upper)) = refl
  then_expr (ExprTree-F.Substring base (Some lower) None) = refl
  then_expr (ExprTree-F.Substring base (Some lower) (Some upper)) = refl
  then_expr (ExprTree-F.Unary operator operand) = refl
  then_expr (ExprTree-F.Binary operator left right) = refl
  then_expr (ExprTree-F.Convert kind operand) = refl
  then_expr (ExprTree-F.Paren inner) = refl
  then_expr (ExprTree-F.Invoke callee arguments) = λ k. ExprTree-F.Invoke callee (twice gB fB arguments k)
  then_expr (ExprTree-F.Intrinsic code arguments) = λ k. ExprTree-F.Intrinsic code (twice gB fB arguments k)
  then_expr (ExprTree-F.Construct definition arguments) = λ k. ExprTree-F.Construct definition (twice gB fB arguments k)
  then_expr (ExprTree-F.Array items) = λ k. ExprTree-F.Array (twice gA fA items k)
  then_expr (ExprTree-F.Temp number) = refl
  then_expr (ExprTree-F.Extent symbol dimension) = refl
  then_expr (ExprTree-F.Seq stmts value) = λ k. ExprTree-F.Seq (twice gE fE stmts k) (hB value)
  then_expr (ExprTree-F.TempAt number place) = refl
  then_expr (ExprTree-F.SecLen lower upper step low high) = refl
  then_expr (ExprTree-F.Arr number element extents) = λ k. ExprTree-F.Arr number element (twice gB fB extents k)
  then_expr (ExprTree-F.«ExprTree::At» source line value) = refl

  then_print_item : (y : PrintItemTree-F A B C D E F) → map-PrintItemTree A' B' C' D' E' F' A'' B'' C'' D'' E'' F'' gA gB gC gD gE gF (map-PrintItemTree A B C D E F A' B' C' D' E' F' fA fB fC fD fE fF y) ≡ map-PrintItemTree A B C D E F A'' B'' C'' D'' E'' F'' hA hB hC hD hE hF y
  then_print_item (PrintItemTree-F.«PrintItemTree::Value» value) = refl
  then_print_item (PrintItemTree-F.«PrintItemTree::Loop» variable lower upper step items) = λ k. PrintItemTree-F.«PrintItemTree::Loop» (hB variable) (hB lower) (hB upper) (hB step) (twice gC fC items k)

  then_section_part : (y : SectionPartTree-F A B C D E F) → map-SectionPartTree A' B' C' D' E' F' A'' B'' C'' D'' E'' F'' gA gB gC gD gE gF (map-SectionPartTree A B C D E F A' B' C' D' E' F' fA fB fC fD fE fF y) ≡ map-SectionPartTree A B C D E F A'' B'' C'' D'' E'' F'' hA hB hC hD hE hF y
  then_section_part (SectionPartTree-F.«SectionPartTree::At» index) = refl
  then_section_part (SectionPartTree-F.Triple None None None) = refl
  then_section_part (SectionPartTree-F.Triple None None (Some step)) = refl
  then_section_part (SectionPartTree-F.Triple None (Some upper) None) = refl
  then_section_part (SectionPartTree-F.Triple None (Some upper) (Some step)) = refl
  then_section_part (SectionPartTree-F.Triple (Some lower) None None) = refl
  then_section_part (SectionPartTree-F.Triple (Some lower) None (Some step)) = refl
  then_section_part (SectionPartTree-F.Triple (Some lower) (Some upper) None) = refl
  then_section_part (SectionPartTree-F.Triple (Some lower) (Some upper) (Some step)) = refl

  then_stmt : (y : StmtTree-F A B C D E F) → map-StmtTree A' B' C' D' E' F' A'' B'' C'' D'' E'' F'' gA gB gC gD gE gF (map-StmtTree A B C D E F A' B' C' D' E' F' fA fB fC fD fE fF y) ≡ map-StmtTree A B C D E F A'' B'' C'' D'' E'' F'' hA hB hC hD hE hF y
  then_stmt (StmtTree-F.Assign line target value) = refl
  then_stmt (StmtTree-F.If line condition then_block else_block) = λ k. StmtTree-F.If line (hB condition) (twice gE fE then_block k) (twice gE fE else_block k)
  then_stmt (StmtTree-F.Do line id variable lower upper step body) = λ k. StmtTree-F.Do line id (hB variable) (hB lower) (hB upper) (hB step) (twice gE fE body k)
  then_stmt (StmtTree-F.While line id condition body) = λ k. StmtTree-F.While line id (hB condition) (twice gE fE body k)
  then_stmt (StmtTree-F.Exit line id) = refl
  then_stmt (StmtTree-F.Cycle line id) = refl
  then_stmt (StmtTree-F.Select line value cases default) = λ k. StmtTree-F.Select line (hB value) (twice gF fF cases k) (twice gE fE default k)
  then_stmt (StmtTree-F.Call line callee arguments) = λ k. StmtTree-F.Call line callee (twice gB fB arguments k)
  then_stmt (StmtTree-F.Print line form advance items) = λ k. StmtTree-F.Print line form advance (twice gC fC items k)
  then_stmt (StmtTree-F.Read line target None) = refl
  then_stmt (StmtTree-F.Read line target (Some iostat)) = refl
  then_stmt (StmtTree-F.Stop line error code) = refl
  then_stmt (StmtTree-F.Return line) = refl
  then_stmt (StmtTree-F.Block line stmts) = λ k. StmtTree-F.Block line (twice gE fE stmts k)
  then_stmt (StmtTree-F.Let line number value) = refl
  then_stmt (StmtTree-F.Room line number element None extents) = λ k. StmtTree-F.Room line number element None (twice gB fB extents k)
  then_stmt (StmtTree-F.Room line number element (Some length) extents) = λ k. StmtTree-F.Room line number element (Some (hB length)) (twice gB fB extents k)
  then_stmt (StmtTree-F.Count line number bound body) = λ k. StmtTree-F.Count line number (hB bound) (twice gE fE body k)
  then_stmt (StmtTree-F.Same line left right) = refl
  then_stmt (StmtTree-F.Probe line designator) = refl
  then_stmt (StmtTree-F.Begin line number) = refl
  then_stmt (StmtTree-F.Put line number value) = refl
  then_stmt (StmtTree-F.End line) = refl

  then_case : (y : CaseTree-F A B C D E F) → map-CaseTree A' B' C' D' E' F' A'' B'' C'' D'' E'' F'' gA gB gC gD gE gF (map-CaseTree A B C D E F A' B' C' D' E' F' fA fB fC fD fE fF y) ≡ map-CaseTree A B C D E F A'' B'' C'' D'' E'' F'' hA hB hC hD hE hF y
  then_case y = λ k. record { ranges = y.ranges; body = twice gE fE y.body k }

-- two carriers of each kind, and how they are related
abbrev pub Pair : (A A' : Type 0) → (A → A' → Type 0) → Type 0
Pair A A' R = (a : A) × (a' : A') × R a a'

module _ (A B C D E F A' B' C' D' E' F' : Type 0) (RA : A → A' → Type 0) (RB : B → B' → Type 0) (RC : C → C' → Type 0) (RD : D → D' → Type 0) (RE : E → E' → Type 0) (RF : F → F' → Type 0) (array_item : ArrayItemTree-F A B C D E F → A) (expr : ExprTree-F A B C D E F → B) (print_item : PrintItemTree-F A B C D E F → C) (section_part : SectionPartTree-F A B C D E F → D) (stmt : StmtTree-F A B C D E F → E) (case : CaseTree-F A B C D E F → F) (array_item' : ArrayItemTree-F A' B' C' D' E' F' → A') (expr' : ExprTree-F A' B' C' D' E' F' → B') (print_item' : PrintItemTree-F A' B' C' D' E' F' → C') (section_part' : SectionPartTree-F A' B' C' D' E' F' → D') (stmt' : StmtTree-F A' B' C' D' E' F' → E') (case' : CaseTree-F A' B' C' D' E' F' → F') where
  abbrev PA : Type 0
  PA = Pair A A' RA

  abbrev PB : Type 0
  PB = Pair B B' RB

  abbrev PC : Type 0
  PC = Pair C C' RC

  abbrev PD : Type 0
  PD = Pair D D' RD

  abbrev PE : Type 0
  PE = Pair E E' RE

  abbrev PF : Type 0
  PF = Pair F F' RF

  abbrev firstA : PA → A
  firstA x = x.0

  abbrev secondA : PA → A'
  secondA x = x.1

  abbrev firstB : PB → B
  firstB x = x.0

  abbrev secondB : PB → B'
  secondB x = x.1

  abbrev firstC : PC → C
  firstC x = x.0

  abbrev secondC : PC → C'
  secondC x = x.1

  abbrev firstD : PD → D
  firstD x = x.0

  abbrev secondD : PD → D'
  secondD x = x.1

  abbrev firstE : PE → E
  firstE x = x.0

  abbrev secondE : PE → E'
  secondE x = x.1

  abbrev firstF : PF → F
  firstF x = x.0

  abbrev secondF : PF → F'
  secondF x = x.1

  -- layer by layer
  pub record Layers : Type 0 where
    pub of_array_item : (y : ArrayItemTree-F PA PB PC PD PE PF) → RA (array_item (map-ArrayItemTree PA PB PC PD PE PF A B C D E F firstA firstB firstC firstD firstE firstF y)) (array_item' (map-ArrayItemTree PA PB PC PD PE PF A' B' C' D' E' F' secondA secondB secondC secondD secondE secondF y))
    pub of_expr : (y : ExprTree-F PA PB PC PD PE PF) → RB (expr (map-ExprTree PA PB PC PD PE PF A B C D E F firstA firstB firstC firstD firstE firstF y)) (expr' (map-ExprTree PA PB PC PD PE PF A' B' C' D' E' F' secondA secondB secondC secondD secondE secondF y))
    pub of_print_item : (y : PrintItemTree-F PA PB PC PD PE PF) → RC (print_item (map-PrintItemTree PA PB PC PD PE PF A B C D E F firstA firstB firstC firstD firstE firstF y)) (print_item' (map-PrintItemTree PA PB PC PD PE PF A' B' C' D' E' F' secondA secondB secondC secondD secondE secondF y))
    pub of_section_part : (y : SectionPartTree-F PA PB PC PD PE PF) → RD (section_part (map-SectionPartTree PA PB PC PD PE PF A B C D E F firstA firstB firstC firstD firstE firstF y)) (section_part' (map-SectionPartTree PA PB PC PD PE PF A' B' C' D' E' F' secondA secondB secondC secondD secondE secondF y))
    pub of_stmt : (y : StmtTree-F PA PB PC PD PE PF) → RE (stmt (map-StmtTree PA PB PC PD PE PF A B C D E F firstA firstB firstC firstD firstE firstF y)) (stmt' (map-StmtTree PA PB PC PD PE PF A' B' C' D' E' F' secondA secondB secondC secondD secondE secondF y))
    pub of_case : (y : CaseTree-F PA PB PC PD PE PF) → RF (case (map-CaseTree PA PB PC PD PE PF A B C D E F firstA firstB firstC firstD firstE firstF y)) (case' (map-CaseTree PA PB PC PD PE PF A' B' C' D' E' F' secondA secondB secondC secondD secondE secondF y))

  abbrev foldA : ArrayItemTree → A
  foldA = fold-ArrayItemTree A B C D E F array_item expr print_item section_part stmt case

  abbrev foldA' : ArrayItemTree → A'
  foldA' = fold-ArrayItemTree A' B' C' D' E' F' array_item' expr' print_item' section_part' stmt' case'

  abbrev GA : ArrayItemTree → Type 0
  GA x = RA (foldA x) (foldA' x)

  abbrev SA : Type 0
  SA = (x : ArrayItemTree) × GA x

  abbrev bareA : SA → ArrayItemTree
  bareA x = x.0

  abbrev pairedA : SA → PA
  pairedA x = (foldA x.0, foldA' x.0, x.1)

  abbrev foldB : ExprTree → B
  foldB = fold-ExprTree A B C D E F array_item expr print_item section_part stmt case

  abbrev foldB' : ExprTree → B'
  foldB' = fold-ExprTree A' B' C' D' E' F' array_item' expr' print_item' section_part' stmt' case'

  abbrev GB : ExprTree → Type 0
  GB x = RB (foldB x) (foldB' x)

  abbrev SB : Type 0
  SB = (x : ExprTree) × GB x

  abbrev bareB : SB → ExprTree
  bareB x = x.0

  abbrev pairedB : SB → PB
  pairedB x = (foldB x.0, foldB' x.0, x.1)

  abbrev foldC : PrintItemTree → C
  foldC = fold-PrintItemTree A B C D E F array_item expr print_item section_part stmt case

  abbrev foldC' : PrintItemTree → C'
  foldC' = fold-PrintItemTree A' B' C' D' E' F' array_item' expr' print_item' section_part' stmt' case'

  abbrev GC : PrintItemTree → Type 0
  GC x = RC (foldC x) (foldC' x)

  abbrev SC : Type 0
  SC = (x : PrintItemTree) × GC x

  abbrev bareC : SC → PrintItemTree
  bareC x = x.0

  abbrev pairedC : SC → PC
  pairedC x = (foldC x.0, foldC' x.0, x.1)

  abbrev foldD : SectionPartTree → D
  foldD = fold-SectionPartTree A B C D E F array_item expr print_item section_part stmt case

  abbrev foldD' : SectionPartTree → D'
  foldD' = fold-SectionPartTree A' B' C' D' E' F' array_item' expr' print_item' section_part' stmt' case'

  abbrev GD : SectionPartTree → Type 0
  GD x = RD (foldD x) (foldD' x)

  abbrev SD : Type 0
  SD = (x : SectionPartTree) × GD x

  abbrev bareD : SD → SectionPartTree
  bareD x = x.0

  abbrev pairedD : SD → PD
  pairedD x = (foldD x.0, foldD' x.0, x.1)

  abbrev foldE : StmtTree → E
  foldE = fold-StmtTree A B C D E F array_item expr print_item section_part stmt case

  abbrev foldE' : StmtTree → E'
  foldE' = fold-StmtTree A' B' C' D' E' F' array_item' expr' print_item' section_part' stmt' case'

  abbrev GE : StmtTree → Type 0
  GE x = RE (foldE x) (foldE' x)

  abbrev SE : Type 0
  SE = (x : StmtTree) × GE x

  abbrev bareE : SE → StmtTree
  bareE x = x.0

  abbrev pairedE : SE → PE
  pairedE x = (foldE x.0, foldE' x.0, x.1)

  abbrev foldF : CaseTree → F
  foldF = fold-CaseTree A B C D E F array_item expr print_item section_part stmt case

  abbrev foldF' : CaseTree → F'
  foldF' = fold-CaseTree A' B' C' D' E' F' array_item' expr' print_item' section_part' stmt' case'

  abbrev GF : CaseTree → Type 0
  GF x = RF (foldF x) (foldF' x)

  abbrev SF : Type 0
  SF = (x : CaseTree) × GF x

  abbrev bareF : SF → CaseTree
  bareF x = x.0

  abbrev pairedF : SF → PF
  pairedF x = (foldF x.0, foldF' x.0, x.1)

  layer_array_item : Layers → (y : ArrayItemTree-F SA SB SC SD SE SF) → GA (roll-ArrayItemTree (map-ArrayItemTree SA SB SC SD SE SF ArrayItemTree ExprTree PrintItemTree SectionPartTree StmtTree CaseTree bareA bareB bareC bareD bareE bareF y))
  layer_array_item layers y =
      subst (λ a. RA a (foldA' (roll-ArrayItemTree (map-ArrayItemTree SA SB SC SD SE SF ArrayItemTree ExprTree PrintItemTree SectionPartTree StmtTree CaseTree bareA bareB bareC bareD bareE bareF y))))
      (sym (fold-roll-ArrayItemTree A B C D E F array_item expr print_item section_part stmt case (map-ArrayItemTree SA SB SC SD SE SF ArrayItemTree ExprTree PrintItemTree SectionPartTree StmtTree CaseTree bareA bareB bareC bareD bareE bareF y) ∙ ap array_item (then_array_item SA SB SC SD SE SF ArrayItemTree ExprTree PrintItemTree SectionPartTree StmtTree CaseTree A B C D E F bareA bareB bareC bareD bareE bareF foldA foldB foldC foldD foldE foldF y ∙ sym (then_array_item SA SB SC SD SE SF PA PB PC PD PE PF A B C D E F pairedA pairedB pairedC pairedD pairedE pairedF firstA firstB firstC firstD firstE firstF y))))
      (subst (RA (array_item (map-ArrayItemTree PA PB PC PD PE PF A B C D E F firstA firstB firstC firstD firstE firstF (map-ArrayItemTree SA SB SC SD SE SF PA PB PC PD PE PF pairedA pairedB pairedC pairedD pairedE pairedF y))))
      (sym (fold-roll-ArrayItemTree A' B' C' D' E' F' array_item' expr' print_item' section_part' stmt' case' (map-ArrayItemTree SA SB SC SD SE SF ArrayItemTree ExprTree PrintItemTree SectionPartTree StmtTree CaseTree bareA bareB bareC bareD bareE bareF y) ∙ ap array_item' (then_array_item SA SB SC SD SE SF ArrayItemTree ExprTree PrintItemTree SectionPartTree StmtTree CaseTree A' B' C' D' E' F' bareA bareB bareC bareD bareE bareF foldA' foldB' foldC' foldD' foldE' foldF' y ∙ sym (then_array_item SA SB SC SD SE SF PA PB PC PD PE PF A' B' C' D' E' F' pairedA pairedB pairedC pairedD pairedE pairedF secondA secondB secondC secondD secondE secondF y))))
      (layers.of_array_item (map-ArrayItemTree SA SB SC SD SE SF PA PB PC PD PE PF pairedA pairedB pairedC pairedD pairedE pairedF y)))

  layer_expr : Layers → (y : ExprTree-F SA SB SC SD SE SF) → GB (roll-ExprTree (map-ExprTree SA SB SC SD SE SF ArrayItemTree ExprTree PrintItemTree SectionPartTree StmtTree CaseTree bareA bareB bareC bareD bareE bareF y))
  layer_expr layers y =
      subst (λ a. RB a (foldB' (roll-ExprTree (map-ExprTree SA SB SC SD SE SF ArrayItemTree ExprTree PrintItemTree SectionPartTree StmtTree CaseTree bareA bareB bareC bareD bareE bareF y))))
      (sym (fold-roll-ExprTree A B C D E F array_item expr print_item section_part stmt case (map-ExprTree SA SB SC SD SE SF ArrayItemTree ExprTree PrintItemTree SectionPartTree StmtTree CaseTree bareA bareB bareC bareD bareE bareF y) ∙ ap expr (then_expr SA SB SC SD SE SF ArrayItemTree ExprTree PrintItemTree SectionPartTree StmtTree CaseTree A B C D E F bareA bareB bareC bareD bareE bareF foldA foldB foldC foldD foldE foldF y ∙ sym (then_expr SA SB SC SD SE SF PA PB PC PD PE PF A B C D E F pairedA pairedB pairedC pairedD pairedE pairedF firstA firstB firstC firstD firstE firstF y))))
      (subst (RB (expr (map-ExprTree PA PB PC PD PE PF A B C D E F firstA firstB firstC firstD firstE firstF (map-ExprTree SA SB SC SD SE SF PA PB PC PD PE PF pairedA pairedB pairedC pairedD pairedE pairedF y))))
      (sym (fold-roll-ExprTree A' B' C' D' E' F' array_item' expr' print_item' section_part' stmt' case' (map-ExprTree SA SB SC SD SE SF ArrayItemTree ExprTree PrintItemTree SectionPartTree StmtTree CaseTree bareA bareB bareC bareD bareE bareF y) ∙ ap expr' (then_expr SA SB SC SD SE SF ArrayItemTree ExprTree PrintItemTree SectionPartTree StmtTree CaseTree A' B' C' D' E' F' bareA bareB bareC bareD bareE bareF foldA' foldB' foldC' foldD' foldE' foldF' y ∙ sym (then_expr SA SB SC SD SE SF PA PB PC PD PE PF A' B' C' D' E' F' pairedA pairedB pairedC pairedD pairedE pairedF secondA secondB secondC secondD secondE secondF y))))
      (layers.of_expr (map-ExprTree SA SB SC SD SE SF PA PB PC PD PE PF pairedA pairedB pairedC pairedD pairedE pairedF y)))

  layer_print_item : Layers → (y : PrintItemTree-F SA SB SC SD SE SF) → GC (roll-PrintItemTree (map-PrintItemTree SA SB SC SD SE SF ArrayItemTree ExprTree PrintItemTree SectionPartTree StmtTree CaseTree bareA bareB bareC bareD bareE bareF y))
  layer_print_item layers y =
      subst (λ a. RC a (foldC' (roll-PrintItemTree (map-PrintItemTree SA SB SC SD SE SF ArrayItemTree ExprTree PrintItemTree SectionPartTree StmtTree CaseTree bareA bareB bareC bareD bareE bareF y))))
      (sym (fold-roll-PrintItemTree A B C D E F array_item expr print_item section_part stmt case (map-PrintItemTree SA SB SC SD SE SF ArrayItemTree ExprTree PrintItemTree SectionPartTree StmtTree CaseTree bareA bareB bareC bareD bareE bareF y) ∙ ap print_item (then_print_item SA SB SC SD SE SF ArrayItemTree ExprTree PrintItemTree SectionPartTree StmtTree CaseTree A B C D E F bareA bareB bareC bareD bareE bareF foldA foldB foldC foldD foldE foldF y ∙ sym (then_print_item SA SB SC SD SE SF PA PB PC PD PE PF A B C D E F pairedA pairedB pairedC pairedD pairedE pairedF firstA firstB firstC firstD firstE firstF y))))
      (subst (RC (print_item (map-PrintItemTree PA PB PC PD PE PF A B C D E F firstA firstB firstC firstD firstE firstF (map-PrintItemTree SA SB SC SD SE SF PA PB PC PD PE PF pairedA pairedB pairedC pairedD pairedE pairedF y))))
      (sym (fold-roll-PrintItemTree A' B' C' D' E' F' array_item' expr' print_item' section_part' stmt' case' (map-PrintItemTree SA SB SC SD SE SF ArrayItemTree ExprTree PrintItemTree SectionPartTree StmtTree CaseTree bareA bareB bareC bareD bareE bareF y) ∙ ap print_item' (then_print_item SA SB SC SD SE SF ArrayItemTree ExprTree PrintItemTree SectionPartTree StmtTree CaseTree A' B' C' D' E' F' bareA bareB bareC bareD bareE bareF foldA' foldB' foldC' foldD' foldE' foldF' y ∙ sym (then_print_item SA SB SC SD SE SF PA PB PC PD PE PF A' B' C' D' E' F' pairedA pairedB pairedC pairedD pairedE pairedF secondA secondB secondC secondD secondE secondF y))))
      (layers.of_print_item (map-PrintItemTree SA SB SC SD SE SF PA PB PC PD PE PF pairedA pairedB pairedC pairedD pairedE pairedF y)))

  layer_section_part : Layers → (y : SectionPartTree-F SA SB SC SD SE SF) → GD (roll-SectionPartTree (map-SectionPartTree SA SB SC SD SE SF ArrayItemTree ExprTree PrintItemTree SectionPartTree StmtTree CaseTree bareA bareB bareC bareD bareE bareF y))
  layer_section_part layers y =
      subst (λ a. RD a (foldD' (roll-SectionPartTree (map-SectionPartTree SA SB SC SD SE SF ArrayItemTree ExprTree PrintItemTree SectionPartTree StmtTree CaseTree bareA bareB bareC bareD bareE bareF y))))
      (sym (fold-roll-SectionPartTree A B C D E F array_item expr print_item section_part stmt case (map-SectionPartTree SA SB SC SD SE SF ArrayItemTree ExprTree PrintItemTree SectionPartTree StmtTree CaseTree bareA bareB bareC bareD bareE bareF y) ∙ ap section_part (then_section_part SA SB SC SD SE SF ArrayItemTree ExprTree PrintItemTree SectionPartTree StmtTree CaseTree A B C D E F bareA bareB bareC bareD bareE bareF foldA foldB foldC foldD foldE foldF y ∙ sym (then_section_part SA SB SC SD SE SF PA PB PC PD PE PF A B C D E F pairedA pairedB pairedC pairedD pairedE pairedF firstA firstB firstC firstD firstE firstF y))))
      (subst (RD (section_part (map-SectionPartTree PA PB PC PD PE PF A B C D E F firstA firstB firstC firstD firstE firstF (map-SectionPartTree SA SB SC SD SE SF PA PB PC PD PE PF pairedA pairedB pairedC pairedD pairedE pairedF y))))
      (sym (fold-roll-SectionPartTree A' B' C' D' E' F' array_item' expr' print_item' section_part' stmt' case' (map-SectionPartTree SA SB SC SD SE SF ArrayItemTree ExprTree PrintItemTree SectionPartTree StmtTree CaseTree bareA bareB bareC bareD bareE bareF y) ∙ ap section_part' (then_section_part SA SB SC SD SE SF ArrayItemTree ExprTree PrintItemTree SectionPartTree StmtTree CaseTree A' B' C' D' E' F' bareA bareB bareC bareD bareE bareF foldA' foldB' foldC' foldD' foldE' foldF' y ∙ sym (then_section_part SA SB SC SD SE SF PA PB PC PD PE PF A' B' C' D' E' F' pairedA pairedB pairedC pairedD pairedE pairedF secondA secondB secondC secondD secondE secondF y))))
      (layers.of_section_part (map-SectionPartTree SA SB SC SD SE SF PA PB PC PD PE PF pairedA pairedB pairedC pairedD pairedE pairedF y)))

  layer_stmt : Layers → (y : StmtTree-F SA SB SC SD SE SF) → GE (roll-StmtTree (map-StmtTree SA SB SC SD SE SF ArrayItemTree ExprTree PrintItemTree SectionPartTree StmtTree CaseTree bareA bareB bareC bareD bareE bareF y))
  layer_stmt layers y =
      subst (λ a. RE a (foldE' (roll-StmtTree (map-StmtTree SA SB SC SD SE SF ArrayItemTree ExprTree PrintItemTree SectionPartTree StmtTree CaseTree bareA bareB bareC bareD bareE bareF y))))
      (sym (fold-roll-StmtTree A B C D E F array_item expr print_item section_part stmt case (map-StmtTree SA SB SC SD SE SF ArrayItemTree ExprTree PrintItemTree SectionPartTree StmtTree CaseTree bareA bareB bareC bareD bareE bareF y) ∙ ap stmt (then_stmt SA SB SC SD SE SF ArrayItemTree ExprTree PrintItemTree SectionPartTree StmtTree CaseTree A B C D E F bareA bareB bareC bareD bareE bareF foldA foldB foldC foldD foldE foldF y ∙ sym (then_stmt SA SB SC SD SE SF PA PB PC PD PE PF A B C D E F pairedA pairedB pairedC pairedD pairedE pairedF firstA firstB firstC firstD firstE firstF y))))
      (subst (RE (stmt (map-StmtTree PA PB PC PD PE PF A B C D E F firstA firstB firstC firstD firstE firstF (map-StmtTree SA SB SC SD SE SF PA PB PC PD PE PF pairedA pairedB pairedC pairedD pairedE pairedF y))))
      (sym (fold-roll-StmtTree A' B' C' D' E' F' array_item' expr' print_item' section_part' stmt' case' (map-StmtTree SA SB SC SD SE SF ArrayItemTree ExprTree PrintItemTree SectionPartTree StmtTree CaseTree bareA bareB bareC bareD bareE bareF y) ∙ ap stmt' (then_stmt SA SB SC SD SE SF ArrayItemTree ExprTree PrintItemTree SectionPartTree StmtTree CaseTree A' B' C' D' E' F' bareA bareB bareC bareD bareE bareF foldA' foldB' foldC' foldD' foldE' foldF' y ∙ sym (then_stmt SA SB SC SD SE SF PA PB PC PD PE PF A' B' C' D' E' F' pairedA pairedB pairedC pairedD pairedE pairedF secondA secondB secondC secondD secondE secondF y))))
      (layers.of_stmt (map-StmtTree SA SB SC SD SE SF PA PB PC PD PE PF pairedA pairedB pairedC pairedD pairedE pairedF y)))

  layer_case : Layers → (y : CaseTree-F SA SB SC SD SE SF) → GF (roll-CaseTree (map-CaseTree SA SB SC SD SE SF ArrayItemTree ExprTree PrintItemTree SectionPartTree StmtTree CaseTree bareA bareB bareC bareD bareE bareF y))
  layer_case layers y =
      subst (λ a. RF a (foldF' (roll-CaseTree (map-CaseTree SA SB SC SD SE SF ArrayItemTree ExprTree PrintItemTree SectionPartTree StmtTree CaseTree bareA bareB bareC bareD bareE bareF y))))
      (sym (fold-roll-CaseTree A B C D E F array_item expr print_item section_part stmt case (map-CaseTree SA SB SC SD SE SF ArrayItemTree ExprTree PrintItemTree SectionPartTree StmtTree CaseTree bareA bareB bareC bareD bareE bareF y) ∙ ap case (then_case SA SB SC SD SE SF ArrayItemTree ExprTree PrintItemTree SectionPartTree StmtTree CaseTree A B C D E F bareA bareB bareC bareD bareE bareF foldA foldB foldC foldD foldE foldF y ∙ sym (then_case SA SB SC SD SE SF PA PB PC PD PE PF A B C D E F pairedA pairedB pairedC pairedD pairedE pairedF firstA firstB firstC firstD firstE firstF y))))
      (subst (RF (case (map-CaseTree PA PB PC PD PE PF A B C D E F firstA firstB firstC firstD firstE firstF (map-CaseTree SA SB SC SD SE SF PA PB PC PD PE PF pairedA pairedB pairedC pairedD pairedE pairedF y))))
      (sym (fold-roll-CaseTree A' B' C' D' E' F' array_item' expr' print_item' section_part' stmt' case' (map-CaseTree SA SB SC SD SE SF ArrayItemTree ExprTree PrintItemTree SectionPartTree StmtTree CaseTree bareA bareB bareC bareD bareE bareF y) ∙ ap case' (then_case SA SB SC SD SE SF ArrayItemTree ExprTree PrintItemTree SectionPartTree StmtTree CaseTree A' B' C' D' E' F' bareA bareB bareC bareD bareE bareF foldA' foldB' foldC' foldD' foldE' foldF' y ∙ sym (then_case SA SB SC SD SE SF PA PB PC PD PE PF A' B' C' D' E' F' pairedA pairedB pairedC pairedD pairedE pairedF secondA secondB secondC secondD secondE secondF y))))
      (layers.of_case (map-CaseTree SA SB SC SD SE SF PA PB PC PD PE PF pairedA pairedB pairedC pairedD pairedE pairedF y)))

  pub related_expr : Layers → (x : ExprTree) → GB x
  related_expr layers = ind-ExprTree GA GB GC GD GE GF (λ x y e. subst (λ z. GA (roll-ArrayItemTree z)) e (layer_array_item layers y)) (λ x y e. subst (λ z. GB (roll-ExprTree z)) e (layer_expr layers y)) (λ x y e. subst (λ z. GC (roll-PrintItemTree z)) e (layer_print_item layers y)) (λ x y e. subst (λ z. GD (roll-SectionPartTree z)) e (layer_section_part layers y)) (λ x y e. subst (λ z. GE (roll-StmtTree z)) e (layer_stmt layers y)) (λ x y e. subst (λ z. GF (roll-CaseTree z)) e (layer_case layers y))

  pub related_stmt : Layers → (x : StmtTree) → GE x
  related_stmt layers = ind-StmtTree GA GB GC GD GE GF (λ x y e. subst (λ z. GA (roll-ArrayItemTree z)) e (layer_array_item layers y)) (λ x y e. subst (λ z. GB (roll-ExprTree z)) e (layer_expr layers y)) (λ x y e. subst (λ z. GC (roll-PrintItemTree z)) e (layer_print_item layers y)) (λ x y e. subst (λ z. GD (roll-SectionPartTree z)) e (layer_section_part layers y)) (λ x y e. subst (λ z. GE (roll-StmtTree z)) e (layer_stmt layers y)) (λ x y e. subst (λ z. GF (roll-CaseTree z)) e (layer_case layers y))
