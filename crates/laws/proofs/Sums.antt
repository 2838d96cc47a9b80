-- What a chain over a few places adds up, so that the sum fits its type.
use Prim.Native.Nat.{ℕ, zero, suc, ◌+◌, ◌-◌, ◌*◌, ◌/◌, ◌≤◌, ◌<◌}
use mathlib.Core.Path.{◌≡◌, refl, sym, ◌∙◌, ap, subst}
use mathlib.Core.List.{List}
use native.Mathlib.Nat.{mul-le-mul_right, le-div_iff_mul-le}
use native.Mathlib.Numerals.{add-one}
use native.Mathlib.Omega.{arith}
use denote.Ref.{Bor}
use Rattle.std.proofs.Common.{Iter}
use Rattle.std.specs.Slice.Iter.{iter_rest}
use Rattle.std.proofs.lemmas.List.{length-take}
use denote.Param.Members.{Mut, Called}
use lib.ListN.{length, get_or, take}
use Rattle.std.specs.Bool.{⊤}
use Rattle.std.specs.Iterator.{Drains}
use Rattle.std.specs.Iterator.Adapters.{map_source, map_callee, map_steps}
use Rattle.std.specs.Iterator.Runs.{EachRunFrom, WholeRun}
use Rattle.std.specs.List.{fold, sum_by, range_with_len}
use Rattle.std.specs.declared.iter.Map.{Map}
use Rattle.std.specs.declared.ops.Range.{Range}
use Rattle.std.specs.declared.option.Option.{Option}
use Rattle.std.proofs.iter.Yields.{nat_range_steps, fronts}
use Rattle.std.proofs.lemmas.Iterator.{YieldsList, YieldsList-from_map, YieldsList-from_range, YieldsList-from_slice}
use Rattle.std.proofs.lemmas.Iterator.Adapters.{fits_from_length, at_most_from_yields_List}
use Rattle.std.proofs.lemmas.Iterator.Consumers.{sum_by_from_yields_List}
use Rattle.std.proofs.lemmas.List.{take_all}
use Rattle.std.proofs.lemmas.List.FromFn.{length-range_with_len, get_or-range_with_len}
use Rattle.std.proofs.lemmas.List.Sums.{sum_by_more}
use Rattle.basis.specs.Words.{◌!◌, sum_below}
use Rattle.basis.specs.Reckoned.{Reckoned}
use Rattle.laws.proofs.Totals.{sum_same}

-- the first n entries of a list, added up
sum_taken : {B : Type 0} (f : B → ℕ) (xs : List B) (d : B) (n : ℕ) → n ≤ length xs → sum_by f (take n xs) ≡ sum_below n (λ j. f (get_or xs j d))
unfolding sum_below
sum_taken f xs d zero l = refl
sum_taken f xs d (suc n) l = rw (← add-one n) (sum_by_more f xs n d (omega arith)) ∙ ap (λ s. s + f (get_or xs n d)) (sum_taken f xs d n (omega arith))

-- what `sum` ensures of its result, and what it requires
module _ {S : Type 0} (steps : S → Option ℕ → S → Type 0) (s : S) where
  abbrev Adds : ℕ → Type 0
  Adds r = (xs : List ℕ) × (⊤ → Drains steps s xs) × (r ≡ fold (λ a x. a + x) 0 xs)

  abbrev AddsWhole : ℕ → Type 0
  AddsWhole r = ⊤ → WholeRun steps s (λ p. r ≡ fold (λ a x. a + x) 0 p.items)

  abbrev AddsBelow : ℕ → Type 0
  AddsBelow top = EachRunFrom steps s (λ p. fold (λ a x. a + x) 0 p.items < top)

-- over a chain of at most so many numbers, each below the limit
module _ {S A B F : Type 0} {steps : S → Option A → S → Type 0} {v : A → B} {ys : List B} {s : Map S F} {f : F} (g : Mut F (A × Unit {0}) ℕ) (h : B → ℕ) (most limit : ℕ) (road : YieldsList steps v (map_source s) ys) (callee : map_callee s ≡ f) (each : (x : A) (r : ℕ) (q : F) → Called g f (x, tt) r q → (q ≡ f) × Reckoned limit (h (v x)) r) (some : 0 < most) (few : length ys ≤ most) where
  pub chain_fits : (top : ℕ) → most * limit < top → AddsBelow (map_steps steps g) s top
  chain_fits top l = fits_from_length g f most top (at_most_from_yields_List road few) callee (omega arith) (λ x r q k. let e = each x r q k in (e.0, share r e.1.small))
    where
      share : (r : ℕ) → r < limit → r ≤ (top - 1) / most
      share r small = (le-div_iff_mul-le some).1 (let least : r * most ≤ limit * most = mul-le-mul_right most (omega arith) in omega arith)

  pub chain_adds : (r : ℕ) → Adds (map_steps steps g) s r → AddsWhole (map_steps steps g) s r
      → Reckoned (most * limit + 1) (sum_by h ys) r
  chain_adds r ran runs =
      let run = runs tt in
      let small : fold (λ a x. a + x) 0 run.0.items < most * limit + 1 = chain_fits (most * limit + 1) (omega arith) run.0 run.0.seen run.1 in
      let same : r ≡ fold (λ a x. a + x) 0 run.0.items = run.3 in
      record {
        is = sum_by_from_yields_List h ys s r ran (YieldsList-from_map g h road callee (λ x r q k. let e = each x r q k in (e.0, e.1.is)));
        small = omega arith;
      }

-- over the numbers below n
sum_counted : (f : ℕ → ℕ) (n : ℕ) → sum_by f (range_with_len 0 n) ≡ sum_below n f
sum_counted f n =
    let long = length-range_with_len 0 n in
    ap (sum_by f) (sym (take_all n (range_with_len 0 n) (omega arith)))
    ∙ sum_taken f (range_with_len 0 n) 0 n (omega arith)
    ∙ sum_same n _ f (λ j l. let e : get_or (range_with_len 0 n) j 0 ≡ j = omega (arith, get_or-range_with_len 0 n j 0 l) in ap f e)

module _ {F : Type 0} {s : Map (Range ℕ) F} {f : F} (g : Mut F (ℕ × Unit {0}) ℕ) (h : ℕ → ℕ) (most limit n : ℕ) (counts : map_source s ≡ record { start = 0; end = n }) (callee : map_callee s ≡ f) (each : (x r : ℕ) (q : F) → Called g f (x, tt) r q → (q ≡ f) × Reckoned limit (h x) r) (some : 0 < most) (few : n ≤ most) where
  pub count_fits : (top : ℕ) → most * limit < top → AddsBelow (map_steps nat_range_steps g) s top
  count_fits = chain_fits g h most limit (YieldsList-from_range 0 n n counts (omega arith)) callee each some (let long = length-range_with_len 0 n in omega arith)

  pub count_adds : (r : ℕ) → Adds (map_steps nat_range_steps g) s r → AddsWhole (map_steps nat_range_steps g) s r
      → Reckoned (most * limit + 1) (sum_below n h) r
  count_adds r ran runs =
      subst (λ x. Reckoned (most * limit + 1) x r) (sum_counted h n)
      (chain_adds g h most limit (YieldsList-from_range 0 n n counts (omega arith)) callee each some (let long = length-range_with_len 0 n in omega arith) r ran runs)

-- over the first n entries of an array
first_few : (xs : List ℕ) (n most : ℕ) → n ≤ most → length (take n xs) ≤ most
first_few xs n most few = simp length-take (omega arith)

module _ {F : Type 0} {s : Map (Iter ℕ) F} {f : F} (g : Mut F (Bor ℕ × Unit {0}) ℕ) (most limit : ℕ) (xs : List ℕ) (n : ℕ) (room : n ≤ length xs) (first : iter_rest (map_source s) ≡ take n xs) (callee : map_callee s ≡ f) (each : (x : Bor ℕ) (r : ℕ) (q : F) → Called g f (x, tt) r q → (q ≡ f) × Reckoned limit x.now r) (some : 0 < most) (few : n ≤ most) where
  pub entries_fit : (top : ℕ) → most * limit < top → AddsBelow (map_steps fronts g) s top
  entries_fit = chain_fits g (λ x. x) most limit (YieldsList-from_slice (take n xs) first) callee each some (first_few xs n most few)

  pub entries_add : (r : ℕ) → Adds (map_steps fronts g) s r → AddsWhole (map_steps fronts g) s r
      → Reckoned (most * limit + 1) (sum_below n (λ j. xs ! j)) r
  entries_add r ran runs =
      subst (λ x. Reckoned (most * limit + 1) x r) (sum_taken (λ x. x) xs 0 n room)
      (chain_adds g (λ x. x) most limit (YieldsList-from_slice (take n xs) first) callee each some (first_few xs n most few) r ran runs)
