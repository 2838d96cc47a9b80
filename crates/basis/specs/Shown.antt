-- The words at work, on small numbers.
use Rattle.std.specs.Prelude.{◌+◌, ◌*◌, List, [], ◌∷◌, refl, ltb}
use Rattle.std.proofs.Math.Option.{some, none}
use Rattle.basis.specs.Words.{◌!◌, within, ceil, sum_below, total, has, all, those, or_else, unless, first, found, filled, padded, onto, settle}
use Rattle.basis.specs.Rows.{Row, ◌is◌, Hold, number, answer, test}

abbrev pub shown : List Row
shown =
    (number ((3 ∷ 4 ∷ []) ! 1) is 4 ∷ [])
    ∷ (number ((3 ∷ 4 ∷ []) ! 2) is 0 ∷ [])
    ∷ (number (ceil 7 4) is 2 ∷ [])
    ∷ (number (ceil 8 4) is 2 ∷ [])
    ∷ (number (ceil 9 4) is 3 ∷ [])
    ∷ (number (ceil 0 4) is 0 ∷ [])
    ∷ (test (within 1 4 4) is 1 ∷ [])
    ∷ (test (within 1 4 5) is 0 ∷ [])
    ∷ (number (sum_below 4 (λ i. i * i)) is 14 ∷ [])
    ∷ (number (total (3 ∷ 4 ∷ [])) is 7 ∷ [])
    ∷ (test (has (3 ∷ 4 ∷ []) 4) is 1 ∷ [])
    ∷ (test (has (3 ∷ 4 ∷ []) 5) is 0 ∷ [])
    ∷ (test (all 3 (λ i. ltb i 3)) is 1 ∷ [])
    ∷ (test (all 4 (λ i. ltb i 3)) is 0 ∷ [])
    ∷ (those 6 (ltb 2) is 3 ∷ 4 ∷ 5 ∷ [])
    ∷ (answer (first 6 (ltb 2)) is 3 ∷ [])
    ∷ (answer (first 3 (ltb 2)) is [])
    ∷ (answer (or_else (some 3) (some 4)) is 3 ∷ [])
    ∷ (answer (or_else none (some 4)) is 4 ∷ [])
    ∷ (answer (unless (ltb 1 2) 7) is [])
    ∷ (answer (unless (ltb 2 1) 7) is 7 ∷ [])
    ∷ (test (found (some 3)) is 1 ∷ [])
    ∷ (test (found none) is 0 ∷ [])
    ∷ (filled 2 (λ i. 7 + i) (1 ∷ 2 ∷ 3 ∷ []) is 7 ∷ 8 ∷ 3 ∷ [])
    ∷ (padded 4 (7 ∷ 8 ∷ []) is 7 ∷ 8 ∷ 0 ∷ 0 ∷ [])
    ∷ (onto (7 ∷ 8 ∷ []) (1 ∷ 2 ∷ 3 ∷ []) is 7 ∷ 8 ∷ 3 ∷ [])
    -- 1, 4, 4 stands still at 4, if that is within the bound
    ∷ (answer (settle 5 (λ x. 3 + ceil x 4) (ltb 4) 1) is 4 ∷ [])
    ∷ (answer (settle 5 (λ x. 3 + ceil x 4) (ltb 3) 1) is [])
    ∷ (answer (settle 5 (λ x. 3 + ceil x 4) (ltb 3) 4) is [])
    ∷ []

pub shown_hold : Hold shown
unfolding ceil sum_below total has all those first filled padded settle
shown_hold = refl
