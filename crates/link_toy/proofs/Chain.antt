-- The pass and the translation, one behind the other.
use Rattle.std.proofs.Common.{◌≡◌, ℕ, Bool, true, false, eqb, ◌||◌, ◌&&◌, refl, eq-eqb}
use Rattle.std.proofs.lemmas.Bool.{and_parts}
use Rattle.lf_base.specs.Outcome.{Never}
use Rattle.lf_base.specs.Near.{IsNearBy}
use Rattle.lf_base.proofs.Links.{near_further}
use Rattle.link_toy.specs.Source.{Expression, Number, Variable, Sum, Less, Product, Statement, Skip, Sequence, Assign, While, Repeat, Exit, Call, Print, Scope, Program, IsFine, is_among, is_declared, knows, is_fine}
use Rattle.link_toy.specs.Meaning.{largest_factor, run}
use Rattle.link_toy.specs.Target.{run_c}
use Rattle.link_toy.specs.Translation.{Layout, IsLayout, helper_depth, translated, initial_memory}
use Rattle.link_toy.specs.Temporary.{through, widened, passed, IsNew}
use Rattle.link_toy.proofs.Nearness.{near}
use Rattle.link_toy.proofs.Temporaries.{near_passed}

both : (a b : Bool) → a ≡ true → b ≡ true → (a && b) ≡ true
both true true h k = refl
both true false h k = k
both false b h k = h

more_declared : (a b c : Bool) → (a || c) ≡ true → (a || (b || c)) ≡ true
more_declared true b c h = refl
more_declared false true c h = refl
more_declared false false c h = h

new_declared : (a b c : Bool) → b ≡ true → (a || (b || c)) ≡ true
new_declared true b c h = refl
new_declared false true c h = refl
new_declared false false c h = absurd (cc h)

module _ (t : ℕ) (scope : Scope) where
  wider : (x : ℕ) → is_declared scope x ≡ true → is_declared (widened t scope) x ≡ true
  wider x d = more_declared (eqb x scope.argument) (eqb x t) (is_among x scope.others) d

  declares_new : is_declared (widened t scope) t ≡ true
  declares_new = new_declared (eqb t scope.argument) (eqb t t) (is_among t scope.others) (eq-eqb t t refl)

  knows_more : (e : Expression) → knows scope e ≡ true → knows (widened t scope) e ≡ true
  knows_more (Number v) f = f
  knows_more (Variable x) f = wider x f
  knows_more (Sum a b) f = let p = and_parts (knows scope a) (knows scope b) f in both (knows (widened t scope) a) (knows (widened t scope) b) (knows_more a p.0) (knows_more b p.1)
  knows_more (Less a b) f = let p = and_parts (knows scope a) (knows scope b) f in both (knows (widened t scope) a) (knows (widened t scope) b) (knows_more a p.0) (knows_more b p.1)
  knows_more (Product a b) f = let p = and_parts (knows scope a) (knows scope b) f in both (knows (widened t scope) a) (knows (widened t scope) b) (knows_more a p.0) (knows_more b p.1)

  through_fine : (st : Statement) → is_fine scope st ≡ true → is_fine (widened t scope) (through t st) ≡ true
  through_fine Skip f = f
  through_fine (Sequence a b) f = let p = and_parts (is_fine scope a) (is_fine scope b) f in both (is_fine (widened t scope) (through t a)) (is_fine (widened t scope) (through t b)) (through_fine a p.0) (through_fine b p.1)
  through_fine (Assign here x e) f =
      let p = and_parts (is_declared scope x) (knows scope e) f in
      both (is_declared (widened t scope) t && knows (widened t scope) e) (is_declared (widened t scope) x && is_declared (widened t scope) t)
      (both (is_declared (widened t scope) t) (knows (widened t scope) e) declares_new (knows_more e p.1))
      (both (is_declared (widened t scope) x) (is_declared (widened t scope) t) (wider x p.0) declares_new)
  through_fine (While here e body) f = let p = and_parts (knows scope e) (is_fine scope body) f in both (knows (widened t scope) e) (is_fine (widened t scope) (through t body)) (knows_more e p.0) (through_fine body p.1)
  through_fine (Repeat here e body) f = let p = and_parts (knows scope e) (is_fine scope body) f in both (knows (widened t scope) e) (is_fine (widened t scope) (through t body)) (knows_more e p.0) (through_fine body p.1)
  through_fine Exit f = f
  through_fine (Call here q e) f = knows_more e f
  through_fine (Print here e) f = knows_more e f

pub passed_fine : (t : ℕ) (p : Program) → IsFine p → IsFine (passed t p)
passed_fine t p fine = record { bodies = λ q. through_fine t p.scope (p.bodies q) (fine.bodies q); main = through_fine t p.scope p.main fine.main }

pub both_links : (t : ℕ) (layout : Layout) (p : Program) → IsFine p → IsNew t p.scope → IsLayout (widened t p.scope) layout → IsNearBy Never largest_factor helper_depth (run p) (run_c (initial_memory layout) (translated layout (passed t p)))
both_links t layout p fine new ok = near_further Never 0 0 largest_factor helper_depth (run p) (run (passed t p)) (run_c (initial_memory layout) (translated layout (passed t p))) (near_passed t p fine new) (near layout (passed t p) (passed_fine t p fine) ok)
