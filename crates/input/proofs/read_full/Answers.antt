use Rattle.std.proofs.Common.{◌≡◌, ℕ, ◌+◌, ◌-◌, ◌≤◌, List, ◌++◌, rules, length, take, drop, sym, ap, ◌∙◌, subst, le_refl, drop_at, length-take-le}
use Rattle.std.proofs.lemmas.Slice.{take-put_mid_below}
use Rattle.std.proofs.KnownBytes.{Consumes-trans}
use Rattle.std.specs.Io.KnownBytes.{Consumes}
use borrow.Rule.Slice.PartMut.{put_mid, post_of}
use lib.Seq.{take-add, take-append-le}
use Rattle.input.proofs.read_full.Goals as goal

-- what a read puts behind the bytes before it
behind : (a k n : ℕ) (xs ys : List ℕ) → a ≤ length xs → n ≤ length ys → take a xs ++ take n ys ≡ take (a + n) (put_mid a k xs ys)
behind a k n xs ys within fits =
    let last = post_of a k xs in
    let before = take-put_mid_below a k xs ys a (le_refl _) within in
    let after = ap (take n) (drop_at (take a xs) (ys ++ last) a (length-take-le a xs within)) ∙ take-append-le n ys last fits in
    sym (take-add a n (put_mid a k xs ys) ∙ ap (λ l. l ++ take n (drop a (put_mid a k xs ys))) before ∙ ap (λ l. take a xs ++ l) after)

pub loop-filled-preserved : goal.loop-filled-preserved
loop-filled-preserved g c =
    let joined = behind c.loop-filled.filled (length c.loop-filled.buffer - c.loop-filled.filled) c.in_ok-more.more c.loop-filled.buffer c.read.new.buf c.loop-filled.invariant.0 c.in_ok-more.ensures.bound.0 in
    (search rules, search rules, subst (Consumes _ _) joined (Consumes-trans _ _ _ _ _ c.loop-filled.invariant.2 c.in_ok-more.ensures.bytes.0))
