-- A result that fits its kind is the exact one.
use Rattle.std.proofs.Common.{◌≡◌, ℕ, Bool, true, false, refl, Ok, Err, if◌then◌else◌}
use Rattle.type_rules.specs.Values.{Exact, Scalar, Integer, Evaluation, Gives, Traps, fitted, is_in_kind, IsExact}
use Rattle.lf_base.specs.declared.trap.Trap.TheVariants.{IntegerOverflow}

pub fits_exactly : (kind : ℕ) (exact : Exact) (value : Scalar) → fitted kind exact ≡ Gives value → IsExact kind exact value
fits_exactly kind (Ok z) value e = by (is_in_kind kind z) refl e
  where
    by : (t : Bool) → is_in_kind kind z ≡ t → ◌≡◌ {A = Evaluation Scalar} (if t then Gives (Integer kind z) else Traps IntegerOverflow) (Gives value) → IsExact kind (Ok z) value
    by true f g = record { number = z; is = refl; as_value = cc; in_kind = f }
    by false f g = cc
fits_exactly kind (Err trap) value e = cc
