-- What the public function of this crate promises of its answer r.
use Rattle.std.specs.Prelude.{◌≡◌}
use Rattle.rules.specs.Refusals.{refused_as}
use Rattle.rules.specs.declared.Refusal.{Refusal}
use Rattle.verdicts.specs.declared.Numbered.{Numbered}

-- a refusal's number, and its second
abbrev pub NumbersAre : Refusal → Numbered → Type 0
NumbersAre why r = (r.number ≡ (refused_as why).number) × (r.second ≡ (refused_as why).second)
