use Rattle.std.proofs.Common.{◌≡◌, ℕ, ◌+◌, ◌-◌, List, ◌++◌, rules, sym, ap, ◌∙◌, subst, length, take, drop}
use Rattle.std.proofs.KnownBytes.{Appends-trans}
use Rattle.std.specs.Io.KnownBytes.{Appends}
use lib.Seq.{take-add}
use Rattle.std.proofs.lemmas.List.{take_rest}
use Rattle.sending.proofs.write_whole.Goals as goal

-- what a write takes of the rest stands behind what was taken before
behind : (sent more : ℕ) (bytes : List ℕ) → take sent bytes ++ take more (take (length bytes - sent) (drop sent bytes)) ≡ take (sent + more) bytes
behind sent more bytes = ap (λ xs. take sent bytes ++ take more xs) (take_rest bytes sent) ∙ sym (take-add sent more bytes)

pub loop-sent-preserved : goal.loop-sent-preserved
loop-sent-preserved g c =
    (search rules, subst (Appends _ _) (behind c.loop-sent.sent c.in_ok-more.more c.args.bytes.now) (Appends-trans _ _ _ _ _ c.loop-sent.invariant.1 c.in_ok-more.ensures.bytes))
