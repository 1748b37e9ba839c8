-- What comes of files whose order is wanted.
use Rattle.std.proofs.Common.{◌≡◌, ℕ, ◌<◌, ◌+◌, Bool, List, [], ◌∷◌, ◌++◌, length, drop, map, get_or, Option, Some, None, Result, Ok, Err, Global, String, string_bytes, inl, inr, refl, sym, ap, subst, ◌∙◌}
use Rattle.std.specs.List.{Contains}
use Rattle.std.proofs.lemmas.List.{append-nil, append_assoc, drop_more, get_or-map, length-map}
use Rattle.std.proofs.lemmas.List.Elements.{Contains-get_or}
use denote.Ref.{Bor}
use Rattle.lf_base.specs.declared.rule.Rule.{Rule}
use Rattle.lf_base.specs.declared.rule.Rule.TheVariants.{E108}
use Rattle.lf_base.specs.declared.fault.GetFault.TheVariants.{TooLong}
use Rattle.lf_base.specs.declared.fault.GetFault.TheVariants as read
use Rattle.lf_base.specs.Contents.{joined}
use Rattle.lf_base.specs.Files.{Files, ReadGives}
use Rattle.ast_nodes.specs.declared.file.File.{File}
use Rattle.file_order.specs.Answers.{IsLeastFileOrder}
use Rattle.lf_driver.specs.declared.outcome.Answer.{Answer}
use Rattle.lf_driver.specs.declared.outcome.Answer.TheVariants.{Done, Usage, Absent, Refused, Circular, ReadFault, WriteFault, Memory}
use Rattle.lf_driver.specs.Ends.{Counts}
use Rattle.lf_driver.specs.Front.{front_of}
use Rattle.lf_driver.specs.Order.{order_text}
use Rattle.lf_driver.specs.Refusal.{Refusal}
use Rattle.lf_driver.specs.Refusal as refusal
use Rattle.lf_driver.specs.Sort.{HasTree, HasTrees, GivesTreeOf, GivesTrees, CountsReads, GainsText, TreesSortTo, FilesSortTo}
use Rattle.lf_driver.specs.Verdict.{Told, tree_of, tree_in, before_trees, trees_of}
use Rattle.lf_driver.proofs.Saving.{long_front}

-- what a read gives, and the tree of it
pub tree_there : {V : Type 0} (view : V → List ℕ) (v : V) (files : Option Files) (file : List ℕ) (tree : File) → ReadGives {V = V} view files file (Ok v) → front_of (view v) ≡ Ok tree → GivesTreeOf (Ok tree) file files
tree_there view v None file tree h e = tt
tree_there view v (Some files) file tree h e = ap (tree_in file) h.0 ∙ ap (tree_of file) e

pub tree_refused : {V : Type 0} (view : V → List ℕ) (v : V) (files : Option Files) (file : Bor (List ℕ)) (line : ℕ) (rule : Rule) → ReadGives {V = V} view files file.now (Ok v) → front_of (view v) ≡ Err (line, rule) → GivesTreeOf (Err (Refused file line rule)) file.now files
tree_refused view v None file line rule h e = (tt, refl)
tree_refused view v (Some files) file line rule h e = (ap (tree_in file.now) h.0 ∙ ap (tree_of file.now) e, refl)

pub tree_too_long : {V : Type 0} (view : V → List ℕ) (files : Option Files) (file : Bor (List ℕ)) → ReadGives {V = V} view files file.now (Err TooLong) → GivesTreeOf (Err (Refused file 1 E108)) file.now files
tree_too_long view None file h = (tt, refl)
tree_too_long view (Some files) file h = (ap (tree_in file.now) h.1 ∙ ap (tree_of file.now) (long_front h.0 h.2), refl)

pub tree_absent : {V : Type 0} (view : V → List ℕ) (files : Option Files) (file : Bor (List ℕ)) → ReadGives {V = V} view files file.now (Err read.Absent) → GivesTreeOf (Err (Absent file)) file.now files
tree_absent view None file h = (tt, refl)
tree_absent view (Some files) file h = (ap (tree_in file.now) h, refl)

-- these trees, and those behind them
abbrev pub after_trees : List File → Result (List File) Refusal → Result (List File) Refusal
after_trees trees (Ok more) = Ok (trees ++ more)
after_trees trees (Err refused) = Err refused

-- The trees of the first of the names were read, and the rest is left.
abbrev pub HasRead : List File → List (List ℕ) → List (List ℕ) → Option Files → Type 0
HasRead trees names rest files = Told files (λ files. trees_of files names ≡ after_trees trees (trees_of files rest))

after_none : (there : Result (List File) Refusal) → there ≡ after_trees [] there
after_none (Ok trees) = refl
after_none (Err refused) = refl

pub read_none : (names : List (List ℕ)) (files : Option Files) → HasRead [] names names files
read_none names None = tt
read_none names (Some files) = after_none (trees_of files names)

after_more : (trees : List File) (tree : File) (there : Result (List File) Refusal) → after_trees trees (before_trees (Ok tree) there) ≡ after_trees (trees ++ tree ∷ []) there
after_more trees tree (Ok more) = ap Ok (sym (append_assoc trees (tree ∷ []) more))
after_more trees tree (Err refused) = refl

pub read_more : (trees : List File) (tree : File) (names : List (List ℕ)) (file : List ℕ) (rest : List (List ℕ)) (files : Option Files) → HasRead trees names (file ∷ rest) files → GivesTreeOf (Ok tree) file files → HasRead (trees ++ tree ∷ []) names rest files
read_more trees tree names file rest None h k = tt
read_more trees tree names file rest (Some files) h k = h ∙ ap (λ t. after_trees trees (before_trees t (trees_of files rest))) k ∙ after_more trees tree (trees_of files rest)

pub read_all : (trees : List File) (names : List (List ℕ)) (files : Option Files) → HasRead trees names [] files → HasTrees (Ok trees) names files
read_all trees names None h = tt
read_all trees names (Some files) h = h ∙ ap Ok (append-nil trees)

read_refused : (trees : List File) (names : List (List ℕ)) (file : List ℕ) (rest : List (List ℕ)) (files : Option Files) (refused : Refusal) → HasRead trees names (file ∷ rest) files → HasTree (Err refused) file files → HasTrees (Err refused) names files
read_refused trees names file rest None refused h k = tt
read_refused trees names file rest (Some files) refused h k = h ∙ ap (λ t. after_trees trees (before_trees t (trees_of files rest))) k

pub read_ends : (came : Answer) (trees : List File) (names : List (List ℕ)) (file : List ℕ) (rest : List (List ℕ)) (files : Option Files) → HasRead trees names (file ∷ rest) files → Contains names file → GivesTreeOf (Err came) file files → GivesTrees (Err came) names files
read_ends Done trees names file rest files h k g = absurd g
read_ends Usage trees names file rest files h k g = absurd g
read_ends (Absent name) trees names file rest files h k g = (read_refused trees names file rest files (refusal.Absent name.now) h g.0, subst (Contains names) (sym g.1) k)
read_ends (Refused name line rule) trees names file rest files h k g = (read_refused trees names file rest files (refusal.Refused name.now line rule) h g.0, subst (Contains names) (sym g.1) k)
read_ends (Circular text) trees names file rest files h k g = absurd g
read_ends ReadFault trees names file rest files h k g = tt
read_ends WriteFault trees names file rest files h k g = absurd g
read_ends Memory trees names file rest files h k g = tt

-- the text of the least order was put
pub shown_order : (f w : Bool) (came : Answer) (names : List (List ℕ)) (trees : List File) (order : List ℕ) (a b : Option (List ℕ)) → IsLeastFileOrder trees order → GainsText f w came (order_text names order) a b → TreesSortTo f w came names trees a b
shown_order f w Done names trees order a b h g = (order, h, g)
shown_order f w Usage names trees order a b h g = absurd g
shown_order f w (Absent name) names trees order a b h g = absurd g
shown_order f w (Refused name line rule) names trees order a b h g = absurd g
shown_order f w (Circular text) names trees order a b h g = absurd g
shown_order f w ReadFault names trees order a b h g = absurd g
shown_order f w WriteFault names trees order a b h g = (g.0, (order, h, g.1))
shown_order f w Memory names trees order a b h (inl e) = inl e
shown_order f w Memory names trees order a b h (inr g) = inr (g.0, (order, h, g.1))

-- what comes of files whose trees were read, or were not
pub sorted : (f w : Bool) (came : Answer) (names : List (List ℕ)) (trees : List File) (files : Option Files) (a b : Option (List ℕ)) → HasTrees (Ok trees) names files → TreesSortTo f w came names trees a b → FilesSortTo f w came names files a b
sorted f w Done names trees files a b h g = (trees, h, g)
sorted f w Usage names trees files a b h g = absurd g
sorted f w (Absent name) names trees files a b h g = absurd g
sorted f w (Refused name line rule) names trees files a b h g = absurd g
sorted f w (Circular text) names trees files a b h g = (trees, h, g)
sorted f w ReadFault names trees files a b h g = absurd g
sorted f w WriteFault names trees files a b h g = (trees, h, g)
sorted f w Memory names trees files a b h g = inr (trees, h, g)

pub not_read : (f w : Bool) (came : Answer) (names : List (List ℕ)) (files : Option Files) (a b : Option (List ℕ)) → GivesTrees (Err came) names files → b ≡ a → FilesSortTo f w came names files a b
not_read f w Done names files a b h e = absurd h
not_read f w Usage names files a b h e = absurd h
not_read f w (Absent name) names files a b h e = (e, h.0, h.1)
not_read f w (Refused name line rule) names files a b h e = (e, h.0, h.1)
not_read f w (Circular text) names files a b h e = absurd h
not_read f w ReadFault names files a b h e = e
not_read f w WriteFault names files a b h e = absurd h
not_read f w Memory names files a b h e = inl e

-- the counts behind them
pub counted : (f w : Bool) (came : Answer) (names : List (List ℕ)) (trees : List File) (a b : Option (List ℕ)) (r r' q q' : ℕ) → TreesSortTo f w came names trees a b → r' ≡ r → Counts came 0 0 q q' → Counts came r r' q q'
counted f w Done names trees a b r r' q q' g e h = (e, h.1)
counted f w Usage names trees a b r r' q q' g e h = absurd g
counted f w (Absent name) names trees a b r r' q q' g e h = absurd g
counted f w (Refused name line rule) names trees a b r r' q q' g e h = absurd g
counted f w (Circular text) names trees a b r r' q q' g e h = (e, h.1)
counted f w ReadFault names trees a b r r' q q' g e h = absurd g
counted f w WriteFault names trees a b r r' q q' g e h = (e, h.1)
counted f w Memory names trees a b r r' q q' g e h = (e, h.1)

pub counted_reads : (came : Answer) (names : List (List ℕ)) (files : Option Files) (r r' q q' : ℕ) → GivesTrees (Err came) names files → CountsReads came r r' → q' ≡ q → Counts came r r' q q'
counted_reads Done names files r r' q q' g h e = absurd g
counted_reads Usage names files r r' q q' g h e = absurd g
counted_reads (Absent name) names files r r' q q' g h e = (h, e)
counted_reads (Refused name line rule) names files r r' q q' g h e = (h, e)
counted_reads (Circular text) names files r r' q q' g h e = absurd g
counted_reads ReadFault names files r r' q q' g h e = (h, e)
counted_reads WriteFault names files r r' q q' g h e = absurd g
counted_reads Memory names files r r' q q' g h e = (h, e)

pub counted_before : (came : Answer) (l m n : ℕ) → m ≡ l → CountsReads came m n → CountsReads came l n
counted_before came l m n e h = subst (λ x. CountsReads came x n) e h

-- three pieces, one behind another
pub three_pieces : (a b c : List ℕ) → joined (a ∷ b ∷ c ∷ []) ≡ (a ++ b) ++ c
unfolding joined
three_pieces a b c = ap (λ x. a ++ (b ++ x)) (append-nil c) ∙ sym (append_assoc a b c)

-- the first of the names that are left
pub next_name : (words : List (String Global)) (i : ℕ) (name d : String Global) (text : List ℕ) → i < length words → name ≡ get_or words i d → text ≡ string_bytes name → drop i (map string_bytes words) ≡ text ∷ drop (i + 1) (map string_bytes words)
next_name words i name d text lt is value = drop_more (map string_bytes words) i [] (subst (λ n. i < n) (sym (length-map words string_bytes)) lt) ∙ ap (λ x. x ∷ drop (i + 1) (map string_bytes words)) (get_or-map string_bytes words i d [] lt ∙ ap string_bytes (sym is) ∙ sym value)

pub name_among : (words : List (String Global)) (i : ℕ) (name d : String Global) (text : List ℕ) → i < length words → name ≡ get_or words i d → text ≡ string_bytes name → Contains (map string_bytes words) text
name_among words i name d text lt is value = subst (Contains (map string_bytes words)) (get_or-map string_bytes words i d [] lt ∙ ap string_bytes (sym is) ∙ sym value) (Contains-get_or (map string_bytes words) i [] (subst (λ n. i < n) (sym (length-map words string_bytes)) lt))
