-- From the repetition's end to a busy length, and to a pass.
use Prim.Native.Nat.{ℕ}
use mathlib.Core.Path.{◌≡◌, refl, sym, ◌∙◌, ap}
use mathlib.Core.Bool.{Bool, true, false, cond, ◌&&◌}
use mathlib.Core.List.{List}
use mathlib.Core.Option.{none}
use lib.Dec.{ltb}
use Rattle.std.specs.Option.{is_some}
use Rattle.basis.specs.Words.{found}
use Rattle.rules.specs.BusyLength.{busy_length, passes}
use Rattle.laws.proofs.BusyLength.{passes-found}
use Rattle.busy.specs.Spans.{span_as}
use Rattle.std.specs.declared.option.Option.{Option as Found}
use Rattle.std.specs.declared.option.Option.TheVariants.{Some, None}

-- an answer that is there
pub found_as : (x : Found ℕ) → found (span_as x) ≡ is_some x
found_as (Some W) = refl
found_as None = refl

module _ (T B b o : List ℕ) (h w : ℕ) where
  pass_is : (a : Bool) → found (cond a (busy_length T B b o h w) none) ≡ (a && passes T B b o h w)
  pass_is true = sym (passes-found T B b o h w)
  pass_is false = refl

  pub ends : (x : Found ℕ) (r : Bool) → span_as x ≡ cond (ltb h 16) (busy_length T B b o h w) none → r ≡ is_some x → r ≡ (ltb h 16 && passes T B b o h w)
  ends x r e d = d ∙ sym (found_as x) ∙ ap found e ∙ pass_is (ltb h 16)
