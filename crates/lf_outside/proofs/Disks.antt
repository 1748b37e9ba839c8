-- What the calls of a disk make of the files that a store over it tells.
use Rattle.std.proofs.Common.{◌≡◌, ℕ, true, false, List, [], ◌∷◌, ◌++◌, length, take, Option, Some, None, Result, Ok, Err, inl, inr, refl, sym, ap, subst, ◌∙◌, append-nil, ◌≤◌, arith}
use Rattle.std.proofs.lemmas.List.{length-take, take_all}
use Rattle.std.specs.Option.{IfSome, option_map}
use Rattle.std.specs.FinMap.{get, insert, remove}
use Rattle.lf_base.specs.Contents.{Appends}
use Rattle.lf_base.specs.Files.{Begins, Finishes, GivesAt, ReadGives}
use Rattle.lf_base.specs.declared.fault.GetFault.{GetFault}
use Rattle.lf_base.specs.declared.fault.GetFault.TheVariants as reading
use Rattle.lf_outside.specs.Names.{is_own}
use Rattle.lf_outside.specs.Disk.{Step, Synced, Renamed, files_in, bytes_in, or_none, users, told, held, Opens, Creates, Writes, Syncs, Renames, Removes, Publishes, Gone, AllPublished, GivesWhole}
use Rattle.lf_outside.proofs.Users.{get_plain, get_own, get_put, get_taken, insert_own, remove_own, insert_plain}

module _ (X E : Type 0) where
  pub removes_told : (old new : Option (List Step)) (stuck stuck' : ℕ) (name : List ℕ) (r : Result X E) → is_own name ≡ true → Removes old new stuck stuck' name r → told new ≡ told old
  removes_told None new stuck stuck' name r own h = ap told h
  removes_told (Some s) new stuck stuck' name (Ok x) own h = ap told h ∙ ap Some (remove_own (files_in s) name own)
  removes_told (Some s) new stuck stuck' name (Err e) own h = ap told h.0

  pub removes_gone : (old new : Option (List Step)) (stuck stuck' : ℕ) (name : List ℕ) (r : Result X E) → Removes old new stuck stuck' name r → Gone new stuck stuck' name
  removes_gone None new stuck stuck' name r h = subst (λ n. Gone n stuck stuck' name) (sym h) tt
  removes_gone (Some s) new stuck stuck' name (Ok x) h = subst (λ n. Gone n stuck stuck' name) (sym h) (inl (get_taken (files_in s) name))
  removes_gone (Some s) new stuck stuck' name (Err e) h = subst (λ n. Gone n stuck stuck' name) (sym h.0) (inr h.1)

  pub creates_told : (old new : Option (List Step)) (name : List ℕ) (x : X) → is_own name ≡ true → Creates {E = E} old new name (Ok x) → told new ≡ told old
  creates_told None new name x own h = ap told h
  creates_told (Some s) new name x own h = ap told h.1 ∙ ap Some (insert_own (files_in s) name [] own)

  pub creates_begins : (old new : Option (List Step)) (name : List ℕ) (x : X) → Creates {E = E} old new name (Ok x) → Begins (told old) (held new name)
  creates_begins None new name x h = tt
  creates_begins (Some s) new name x h = ap (λ n. held n name) h.1 ∙ ap (λ o. Some (or_none o)) (get_put (files_in s) name [])

  pub creates_same : (old new : Option (List Step)) (name : List ℕ) (e : E) → Creates {X = X} old new name (Err e) → new ≡ old
  creates_same None new name e h = h
  creates_same (Some s) new name e h = h

module _ (E : Type 0) where
  pub writes_told : (old new : Option (List Step)) (name piece : List ℕ) (r : Result ℕ E) → is_own name ≡ true → Writes old new name piece r → told new ≡ told old
  writes_told None new name piece r own h = ap told h
  writes_told (Some s) new name piece (Ok n) own h = ap told h.2 ∙ ap Some (insert_own (files_in s) name (h.0 ++ take n piece) own)
  writes_told (Some s) new name piece (Err e) own h = ap told h

  pub writes_held : (old new : Option (List Step)) (name piece : List ℕ) (n : ℕ) → Writes {E = E} old new name piece (Ok n) → Appends (held old name) (held new name) (take n piece)
  writes_held None new name piece n h = record { bytes = λ bytes e. absurd (cc) }
  writes_held (Some s) new name piece n h = record {
    bytes = λ bytes e.
        let was : bytes ≡ h.0 = let there : Some (or_none (bytes_in s name)) ≡ Some h.0 = ap (λ o. Some (or_none o)) h.1 in cc in
        ap (λ n. held n name) h.2 ∙ ap (λ o. Some (or_none o)) (get_put (files_in s) name (h.0 ++ take n piece)) ∙ ap (λ t. Some (t ++ take n piece)) (sym was);
  }

  pub writes_none : (old new : Option (List Step)) (name piece : List ℕ) (e : E) → Writes old new name piece (Err e) → Appends (held old name) (held new name) []
  writes_none None new name piece e h = record { bytes = λ bytes e. absurd (cc) }
  writes_none (Some s) new name piece e h = record { bytes = λ bytes e. ap (λ n. held n name) h ∙ e ∙ ap Some (sym (append-nil bytes)) }

module _ (X E X' E' : Type 0) where
  pub kept_back : (old new : Option (List Step)) (temporary name : List ℕ) (e : E) → new ≡ old → Publishes {X = X} old new temporary name (Err e)
  kept_back None new temporary name e h = h
  kept_back (Some s) new temporary name e h = (s, h, refl)

  pub not_synced : (old new : Option (List Step)) (temporary name : List ℕ) (e : E) (e' : E') → Syncs {X = X} old new temporary (Err e) → Publishes {X = X'} old new temporary name (Err e')
  not_synced None new temporary name e e' h = h
  not_synced (Some s) new temporary name e e' h = (s, h, refl)

  pub then_renamed : (old between new : Option (List Step)) (temporary name : List ℕ) (x : X) (r : Result X' E') → Syncs {E = E} old between temporary (Ok x) → Renames between new temporary name r → Publishes old new temporary name r
  then_renamed None None new temporary name x r h k = k
  then_renamed None (Some t) new temporary name x r h k = absurd (cc)
  then_renamed (Some s) None new temporary name x r h k = let no = h.2 in absurd (cc)
  then_renamed (Some s) (Some t) new temporary name x (Ok y) h k =
      let is : t ≡ Synced temporary h.0 ∷ s = let same = h.2 in cc in
      let there : bytes_in s temporary ≡ Some k.0 = subst (λ l. bytes_in l temporary ≡ Some k.0) is k.1 in
      let one : k.0 ≡ h.0 = let first = h.1 in cc in
      (k.0, there, k.2 ∙ ap (λ l. Some (Renamed temporary name k.0 ∷ l)) is ∙ ap (λ b. Some (Renamed temporary name k.0 ∷ Synced temporary b ∷ s)) (sym one))
  then_renamed (Some s) (Some t) new temporary name x (Err e) h k =
      let is : t ≡ Synced temporary h.0 ∷ s = let same = h.2 in cc in
      (t, k, ap files_in is)

module _ (X E : Type 0) where
  pub finishes : (old new : Option (List Step)) (temporary name : List ℕ) (x : X) → is_own temporary ≡ true → is_own name ≡ false → Publishes {E = E} old new temporary name (Ok x) → Finishes (told old) (Some name) (held old temporary) (told new)
  finishes None new temporary name x own plain h = record { told = λ files n bytes e f k. absurd (cc) }
  finishes (Some s) new temporary name x own plain h = record {
    told = λ files n bytes e f k.
        let was : users (files_in s) ≡ files = cc in
        let under : name ≡ n = cc in
        let there : Some (or_none (bytes_in s temporary)) ≡ Some h.0 = ap (λ o. Some (or_none o)) h.1 in
        let are : h.0 ≡ bytes = cc in
        ap told h.2
        ∙ ap Some (insert_plain (remove (files_in s) temporary) name h.0 plain
        ∙ ap (λ m. insert m name h.0) (remove_own (files_in s) temporary own ∙ was)
        ∙ ap (λ m. insert files m h.0) under
        ∙ ap (insert files n) are);
  }

  pub published : (old new : Option (List Step)) (temporary name : List ℕ) (x : X) → Publishes {E = E} old new temporary name (Ok x) → AllPublished old new (Some temporary) (Some name)
  published None new temporary name x h = h
  published (Some s) new temporary name x h = h

  pub not_published : (old new : Option (List Step)) (temporary name : List ℕ) (e : E) → Publishes {X = X} old new temporary name (Err e) → told new ≡ told old
  not_published None new temporary name e h = ap told h
  not_published (Some s) new temporary name e h = ap told h.1 ∙ ap (λ m. Some (users m)) h.2

-- a read of a name that is a store's own
pub own_absent : {V : Type 0} (bytes : V → List ℕ) (old : Option (List Step)) (name : List ℕ) → is_own name ≡ true → ReadGives bytes (told old) name (Err reading.Absent)
own_absent bytes None name own = tt
own_absent bytes (Some s) name own = get_own (files_in s) name own

-- of a file that was opened
pub opened_gives : {V X E : Type 0} (bytes : V → List ℕ) (left : X → Option (List ℕ)) (fault : E → GetFault) (old : Option (List Step)) (name : List ℕ) (file : X) (r : Result V GetFault) → is_own name ≡ false → Opens left fault old name (Ok file) → GivesWhole bytes (left file) r → ReadGives bytes (told old) name r
opened_gives bytes left fault None name file r plain h k = tt
opened_gives bytes left fault (Some s) name file r plain h k =
    let there : get (users (files_in s)) name ≡ Some h.0 = get_plain (files_in s) name plain ∙ h.1 in
    subst (λ o. GivesAt bytes o r) (sym there) (subst (λ o. GivesWhole bytes o r) h.2 k)

-- of one that was not
pub fault_gives : {V : Type 0} (bytes : V → List ℕ) (there : Option (List ℕ)) (fault : GetFault) → (fault ≡ reading.TooLong → ⊥) → (fault ≡ reading.Absent → there ≡ None) → GivesAt bytes there (Err fault)
fault_gives bytes there reading.Absent short h = h refl
fault_gives bytes there reading.TooLong short h = absurd (short refl)
fault_gives bytes there reading.Failed short h = tt
fault_gives bytes there reading.Memory short h = tt

pub closed_gives : {V X E : Type 0} (bytes : V → List ℕ) (left : X → Option (List ℕ)) (fault : E → GetFault) (old : Option (List Step)) (name : List ℕ) (error : E) (f : GetFault) → is_own name ≡ false → Opens left fault old name (Err error) → f ≡ fault error → (f ≡ reading.TooLong → ⊥) → ReadGives bytes (told old) name (Err f)
closed_gives bytes left fault None name error f plain h is short = tt
closed_gives bytes left fault (Some s) name error f plain h is short = fault_gives bytes (get (users (files_in s)) name) f short (λ e. get_plain (files_in s) name plain ∙ h (sym is ∙ e))

-- a reader that was read to its end, or to one byte more than a file may have
pub read_to_end : {V : Type 0} (bytes : V → List ℕ) (left there : Option (List ℕ)) (limit : ℕ) (start : List ℕ) (v : V) → there ≡ left → limit ≡ 67108865 → start ≡ [] → IfSome (option_map (take limit) there) (λ xs. bytes v ≡ start ++ xs) → length (bytes v) ≤ 67108864 → GivesWhole bytes left (Ok v)
read_to_end bytes None there limit start v same size none h short = tt
read_to_end bytes (Some xs) there limit start v same size none h short =
    let told : bytes v ≡ start ++ take limit xs = subst (λ o. IfSome (option_map (take limit) o) (λ ys. bytes v ≡ start ++ ys)) same h in
    let is : bytes v ≡ take 67108865 xs = subst (λ k. bytes v ≡ take k xs) size (subst (λ s. bytes v ≡ s ++ take limit xs) none told) in
    let fits : length xs ≤ 67108865 = omega (arith, ap length is, length-take 67108865 xs, short) in
    (ap Some (sym (is ∙ take_all 67108865 xs fits)), short)
