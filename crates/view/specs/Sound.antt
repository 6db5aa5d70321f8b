-- "Sound: well formed, and (a) each record's covering radius is at least its distance to every record below it; (b) if
-- b and c are children of one record, and x stands below b with c older than x, then x is no farther from b than from
-- c. A free table is sound." (a) and (b) are `Sound` of the tree, at the distance of the table's kind. Assumes
-- nothing.
use Rattle.std.specs.Prelude.{ℕ, ◌<◌, ◌≡◌, ◌⊎◌}
use Rattle.std.proofs.Common.{ap, ◌∙◌, inl, inr, arith}
use Rattle.std.proofs.Math.Decide.{ℕ_discrete}
use Rattle.distance.specs.Kind.{apart}
use Rattle.table.specs.Record.{Record, Used}
use Rattle.judge.specs.WellFormed.{WellFormed}
use Rattle.survey.specs.Survey.{used_in, kind_of}
use Rattle.places.specs.Cases.{either}
use Rattle.tree.specs.View.{Sound}
use Rattle.view.specs.View.{view_of}
use Rattle.view.specs.Shaped.{Shaped}
use Rattle.survey.specs.Laws.{used_in_some}
use Rattle.view.specs.Survey.{kind_of_is}
use Rattle.view.specs.Formed.{none_used}

pub record SoundTable (n : ℕ) (R : ℕ → Record) : Type 0 where
  pub well_formed : WellFormed n R
  pub sound : Sound (apart (kind_of n R)) (view_of R)

-- ---- a free table is sound

-- where no record is used, (a) and (b) hold at any distance
pub none_sound :
    {n : ℕ} {R : ℕ → Record} (kind : ℕ)
    → Shaped n R
    → WellFormed n R
    → used_in n R ≡ 0
    → Sound (apart kind) (view_of R)
none_sound {n} {R} kind shape wf none =
    record { cover = λ k a x u p. absurd (unused a u); near = λ k a b c x u ib ic p h. absurd (unused a u) }
  where
    unused : (a : ℕ) → Used (R a) → ⊥
    unused a u = omega (arith, ap (λ (r : Record). r.card) (none_used shape wf none a))

pub sound_free : {n : ℕ} {R : ℕ → Record} → Shaped n R → WellFormed n R → used_in n R ≡ 0 → SoundTable n R
sound_free {n} {R} shape wf none = record { well_formed = wf; sound = none_sound (kind_of n R) shape wf none }

-- ---- where every used record is of one kind, soundness is (a) and (b) at that kind's distance

module _ {n : ℕ} {R : ℕ → Record} (kind : ℕ) (shape : Shaped n R) (wf : WellFormed n R)
    (same : (a : ℕ) → a < n → Used (R a) → (R a).kind ≡ kind) where
  kind_known : (used_in n R ≡ 0) ⊎ (kind_of n R ≡ kind)
  kind_known = elim (ℕ_discrete (used_in n R) 0) [
    | yes z ↦ inl z
    | no nz ↦
        let w = used_in_some n R (omega arith) in
        inr (kind_of_is n R wf w.0 w.1 w.2 ∙ same w.0 w.1 w.2)
  ]

  pub sound_at : Sound (apart kind) (view_of R) → SoundTable n R
  sound_at ok = either kind_known (sound_free shape wf) (λ e. record { well_formed = wf; sound = rw e ok })

  pub at_sound : SoundTable n R → Sound (apart kind) (view_of R)
  at_sound ok = either kind_known (none_sound kind shape wf) (λ e. rw e at ok.sound)
