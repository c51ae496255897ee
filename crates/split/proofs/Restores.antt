-- What restore leaves, where the memory holds some sections.
use Rattle.std.proofs.Common.{◌≡◌, ℕ, ◌+◌, ◌*◌, ◌/◌, ◌<◌, ◌≤◌, cond, eqb, List, length, take, set, None, Ok, sym, ap, ◌∙◌, mul_comm, arith}
use native.Mathlib.Nat.{div-le_of_le-mul}
use Rattle.journal.specs.Answers.{answered, restore_after, unless}
use Rattle.journal.specs.Flat.{flat_means}
use Rattle.journal.specs.Rows.{Row, apply, restore, restore_fault}
use Rattle.journal.proofs.Flat.{flat_restore}
use Rattle.journal.proofs.Tells.{answered_ok, restore_tells}
use Rattle.split.specs.declared.place.Cut.{Cut}
use Rattle.split.specs.declared.section.Section.{Section}
use Rattle.split.specs.Parts.{Part, Laid, IsSplitGood, flat, label, unlabelled, parts_mean, rows_at, split_means}
use Rattle.split.specs.Plans.{cut_of}
use Rattle.split.proofs.Kind.{Kind}
use Rattle.split.proofs.Changes.{flat_cut, inside, ordered_flat, restored, with_rows}
use Rattle.split.proofs.Ready.{rows_mean}
use Rattle.split.proofs.Reread.{reread, regood}

module _ {K : Type 0} {bytes : K → List ℕ} {w used : ℕ} {directory : List Section} {records values : List ℕ} {ps : List (Part K)} {decoding : List ℕ → K} (key : Kind bytes w decoding) (h : Laid bytes w used directory records values ps)
    (s b : ℕ) {c : Cut} (planned : Ok c ≡ answered (restore_fault (w + 28) (parts_mean ps) s b) (cut_of s ps (b / (w + 28)))) where
  told : (restore_fault (w + 28) (parts_mean ps) s b ≡ None) × (c ≡ cut_of s ps (b / (w + 28)))
  told = answered_ok _ _ c planned

  few : b / (w + 28) ≤ length (rows_at s ps)
  few = div-le_of_le-mul (w + 28) (omega (arith, restore_tells (w + 28) (parts_mean ps) s b told.0, ap (λ (rows : List (Row K)). length rows * (w + 28)) (rows_mean key h s), mul_comm (length (rows_at s ps)) (w + 28)))

  pub enters : 0 < c.entry.rows → c.at < length directory
  enters some = omega (arith, ap (λ (c : Cut). c.at) told.1, inside key h s (omega (arith, ap (λ (c : Cut). c.entry.rows) told.1, few)), h.within)

  module _ {m : ℕ} {ds : List Section} (used_is : m ≡ cond (eqb c.entry.rows 0) c.at (c.at + 1)) (directory_is : ds ≡ cond (eqb c.entry.rows 0) directory (set directory c.at c.entry)) where
    laid : Laid bytes w m ds records values (with_rows s ps (take (b / (w + 28)) (rows_at s ps)))
    laid =
        restored key h s (b / (w + 28)) few (used_is ∙ ap (λ (c : Cut). cond (eqb c.entry.rows 0) c.at (c.at + 1)) told.1)
        (directory_is ∙ ap (λ (c : Cut). cond (eqb c.entry.rows 0) directory (set directory c.at c.entry)) told.1)

    pub good : IsSplitGood decoding w m ds records values bytes
    good = regood key laid

    pub after : split_means decoding w m ds records values ≡ restore_after (w + 28) (parts_mean ps) s b
    after =
        ap parts_mean (reread key laid) ∙ ap (flat_means label unlabelled) (flat_cut s 0 (b / (w + 28)) ps h.proper few)
        ∙ flat_restore label unlabelled (w + 28) s b (flat ps) (ordered_flat 0 ps h.proper)
        ∙ ap (λ f. unless f (parts_mean ps) (apply (w + 28) (parts_mean ps) (restore s b))) (sym told.0)
