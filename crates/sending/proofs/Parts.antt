-- What an error leaves, where a write failed that stands behind others.
use Rattle.std.proofs.Common.{◌≡◌, ℕ, ◌+◌, List, ◌++◌, length, take, sym, ap, ◌∙◌, subst, append_assoc, min, arith}
use Rattle.std.proofs.lemmas.List.{take_min, take-append-le}
use Rattle.std.proofs.Math.Seq.{take-append-add}
use Rattle.std.specs.declared.option.Option.{Option}
use Rattle.std.specs.declared.result.Result.{Result}
use Rattle.std.specs.declared.result.Result.TheVariants.{Ok, Err}
use Rattle.std.specs.Result.{OnErr}
use Rattle.std.specs.Io.KnownBytes.{Appends}
use Rattle.std.proofs.KnownBytes.{Appends-trans}
use Rattle.sending.specs.Writing.{AppendsPart}

-- where there is an error, whatever it is
pub on_err : {T E P : Type 0} → (r : Result T E) → P → OnErr r P
on_err (Ok x) p = tt
on_err (Err e) p = p

-- the first k of ys, behind xs, are the first of all
part_of : (k : ℕ) (xs ys zs : List ℕ) → xs ++ take k ys ≡ take (length xs + min k (length ys)) (xs ++ ys ++ zs)
part_of k xs ys zs =
    let m : ℕ = min k (length ys) in
    ap (λ (bs : List ℕ). xs ++ bs) (sym (take_min k ys) ∙ sym (take-append-le m ys zs (omega arith)))
    ∙ sym (take-append-add xs (ys ++ zs) m)
    ∙ ap (take (length xs + m)) (sym (append_assoc xs ys zs))

-- xs is written, and then a first part of ys; zs was to come
pub part_behind : (a b c : Option (List ℕ)) (xs ys zs whole : List ℕ) → xs ++ ys ++ zs ≡ whole → Appends a b xs → AppendsPart b c ys → AppendsPart a c whole
part_behind a b c xs ys zs whole e done part =
    let j : ℕ = length xs + min part.0 (length ys) in
    (j, subst (Appends a c) (part_of part.0 xs ys zs ∙ ap (take j) e) (Appends-trans a b c xs (take part.0 ys) done part.1))
