-- What the pass asks of a used record's own fields, its child slots aside, and what follows of the whole record.
-- Assumes nothing.
use Rattle.std.specs.Prelude.{ℕ, ◌≤◌, ◌≡◌, refl, Bool, false, ◌&&◌, ◌||◌, not, ltb, eqb}
use Rattle.std.proofs.Math.Path.{sym, ap}
use Rattle.std.proofs.Common.{◌∙◌, arith}
use Rattle.std.proofs.Math.Bool.{true}
use Rattle.std.proofs.Math.Dec.{leb}
use borrow.Author.Tests.{ne_eqb, eqb-false, ltb-false, le-leb, le-ltb, not-false}
use Rattle.places.specs.Choice.{and_left, or_left, or_right}
use Rattle.distance.specs.Kind.{known_kind}
use Rattle.refusals.specs.Limits.{most_children}
use Rattle.table.specs.Record.{Record, Used}
use Rattle.judge.specs.WellFormed.{past_count, is_filled}
use Rattle.judge.specs.OneDecided.{filled_decided}

-- the code's test of a used record, its child slots aside
abbrev pub unfilled : ℕ → ℕ → ℕ → Bool
unfilled time kind count = (eqb time 0 || not (known_kind kind)) || ltb most_children count

pub record Plain (time kind count : ℕ) : Type 0 where
  pub timed : 1 ≤ time
  pub kind_known : known_kind kind ≡ true
  pub few : count ≤ most_children

pub plain : (time kind count : ℕ) → unfilled time kind count ≡ false → Plain time kind count
plain time kind count t =
    let two = or_left (eqb time 0 || not (known_kind kind)) (ltb most_children count) t in
    let no-time : ¬ (time ≡ 0) = eqb-false time 0 (or_left (eqb time 0) (not (known_kind kind)) two) in
    record {
      timed = omega arith;
      kind_known = not-false (known_kind kind) (or_right (eqb time 0) (not (known_kind kind)) two);
      few = ltb-false most_children count (or_right (eqb time 0 || not (known_kind kind)) (ltb most_children count) t);
    }

module _ (r : Record) (time kind count : ℕ)
    (its-time : time ≡ r.timestamp)
    (its-kind : kind ≡ r.kind)
    (its-count : count ≡ r.count)
    (linked : Bool) where
  pub record_not : unfilled time kind count ≡ true → false ≡ is_filled r && linked
  record_not t = go (is_filled r && linked) refl
    where
      go : (x : Bool) → is_filled r && linked ≡ x → false ≡ x
      go true e =
          let f = (filled_decided r).shows (and_left (is_filled r) linked e) in
          let timed : eqb time 0 ≡ false = ne_eqb time 0 (λ z. omega (arith, f.timestamp_from_1)) in
          let known : not (known_kind kind) ≡ false =
          ap (λ (k : ℕ). not (known_kind k)) its-kind ∙ ap not f.kind_known in
          let few : ltb most_children count ≡ false = le-ltb most_children count (omega (arith, f.count_to_8)) in
          sym (λ i. (timed i || known i) || few i) ∙ t
      go false e = refl

  pub record_yes :
      (p l : Bool)
      → Used r
      → Plain time kind count
      → p ≡ past_count r
      → l ≡ linked
      → p && l ≡ is_filled r && linked
  unfolding is_filled
  record_yes p l u h past e =
      let carded : leb 1 r.card ≡ true = le-leb 1 r.card u in
      let timed : leb 1 r.timestamp ≡ true = le-leb 1 r.timestamp (omega arith) in
      let few : leb r.count most_children ≡ true = le-leb r.count most_children (omega arith) in
      let known : known_kind r.kind ≡ true = ap known_kind (sym its-kind) ∙ h.kind_known in
      sym (λ i. (((carded i && timed i) && few i) && (known i && sym past i)) && sym e i)
