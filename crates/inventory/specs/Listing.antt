-- The cards that are listed: how many they are, which, that none stands twice, and one turn of the loop that lists
-- them. The key idea of the loop: what it writes past the cards found is written again, as long as a used record is
-- left. Assumes nothing.
use Prim.Native.Nat.{ℕ, zero, suc, ◌+◌, ◌≤◌, ◌<◌}
use Rattle.std.specs.Prelude.{◌≡◌, Bool, not, eqb, length, take, drop, set}
use Rattle.std.proofs.Math.Path.{refl, sym, ap}
use Rattle.std.proofs.Common.{ap₂, ◌∙◌, add-one, length-append, length-set, take-append-drop, take-suc-set, drop-set-lt}
use mathlib.Core.List.Memᴰ
use mathlib.Core.List.{List, [], ◌∷◌, ◌++◌, append-nil}
use mathlib.Core.List.Memᴰ.{head as first}
use native.Mathlib.Omega.{arith}
use Rattle.std.proofs.lemmas.List.Edits.{sets}
use Rattle.std.proofs.lemmas.List.{take-set-le}
use mir.Val.{bool_byte}
use borrow.Author.Tests.{leb-true, le-leb, lt-leb, eq-eqb, ne_eqb}
use Rattle.places.specs.Choice.{pick}
use Rattle.places.specs.Cases.{either, equal_or, below_or}
use Rattle.places.specs.Fill.{from_start}
use Rattle.places.specs.Test.{count_to, count_grows}
use Rattle.table.specs.Record.{Record, Used, used}
use Rattle.survey.specs.Survey.{used_in}
use Rattle.tree.specs.Slots.{◌∈◌, Distinct, keep, keep_from, keep_to, distinct_append}
use Rattle.inventory.specs.Cards.{cards_in}

-- the only element of a list
alone : {x y : ℕ} → x ∈ (y ∷ []) → x ≡ y
alone {y = y} (Memᴰ.tail x5) = elim x5 [ ]
alone (first e) = e

module _ (R : ℕ → Record) where
  -- ---- one slot more

  used_more : (n : ℕ) → used_in (suc n) R ≡ pick (used (R n)) 1 0 + used_in n R
  unfolding used_in count_to
  used_more n = refl

  used_none : used_in 0 R ≡ 0
  unfolding used_in count_to
  used_none = refl

  cards_none : cards_in 0 R ≡ []
  unfolding cards_in
  cards_none = refl

  cards_kept : (n : ℕ) → Used (R n) → cards_in (suc n) R ≡ cards_in n R ++ ((R n).card ∷ [])
  unfolding cards_in keep
  cards_kept n u = ap (λ (t : Bool). cards_in n R ++ keep t ((R n).card ∷ [])) (le-leb 1 (R n).card u)

  cards_same : (n : ℕ) → (R n).card ≡ 0 → cards_in (suc n) R ≡ cards_in n R
  unfolding cards_in keep
  cards_same n z =
      ap (λ (t : Bool). cards_in n R ++ keep t ((R n).card ∷ [])) (lt-leb 1 (R n).card (omega arith))
      ∙ append-nil (cards_in n R)

  -- a record has a card or none
  by_card : (P : Type 0) (n : ℕ) → (Used (R n) → P) → ((R n).card ≡ 0 → P) → P
  by_card P n f g = equal_or (R n).card 0 g (λ ne. f (omega arith))

  used_one : (n : ℕ) → Used (R n) → used_in (suc n) R ≡ suc (used_in n R)
  used_one n u =
      used_more n
      ∙ omega (arith, ap (λ (t : Bool). pick {A = ℕ} t 1 0) (le-leb 1 (R n).card u))

  used_zero : (n : ℕ) → (R n).card ≡ 0 → used_in (suc n) R ≡ used_in n R
  used_zero n z =
      used_more n
      ∙ omega (arith, ap (λ (t : Bool). pick {A = ℕ} t 1 0) (lt-leb 1 (R n).card (omega arith)))

  pub used_grows : (m n : ℕ) → m ≤ n → used_in m R ≤ used_in n R
  unfolding used_in
  used_grows m n h = count_grows m n (λ s. used (R s)) h

  -- ---- how many

  pub cards_length : (n : ℕ) → length (cards_in n R) ≡ used_in n R
  cards_length zero = ap length cards_none ∙ sym used_none
  cards_length (suc n) =
      by_card (length (cards_in (suc n) R) ≡ used_in (suc n) R) n
      (λ u.
      ap length (cards_kept n u)
      ∙ omega (arith, length-append (cards_in n R) ((R n).card ∷ []), cards_length n, used_one n u))
      (λ z. ap length (cards_same n z) ∙ cards_length n ∙ sym (used_zero n z))

  -- where no used record is left, no card is
  cards_all : (m n : ℕ) → m ≤ n → used_in m R ≡ used_in n R → cards_in m R ≡ cards_in n R
  cards_all m zero h e = ap (λ (k : ℕ). cards_in k R) (omega arith)
  cards_all m (suc n) h e =
      equal_or m (suc n)
      (λ q. ap (λ (k : ℕ). cards_in k R) q)
      (λ ne.
      let b : m ≤ n = omega arith in
      let grows = used_grows m n b in
      by_card (cards_in m R ≡ cards_in (suc n) R) n
      (λ u. absurd (omega (arith, used_one n u)))
      (λ z. cards_all m n b (e ∙ used_zero n z) ∙ sym (cards_same n z)))

  -- ---- which, and none twice

  pub cards_from : (n c : ℕ) → c ∈ cards_in n R → (a : ℕ) × (a < n) × Used (R a) × ((R a).card ≡ c)
  unfolding cards_in
  cards_from zero c i = absurd (Memᴰ.not-nil i)
  cards_from (suc n) c i =
      either (Memᴰ.append_cases (cards_in n R) i)
      (λ j. let z = cards_from n c j in (z.0, omega (arith, z.1), z.2, z.3))
      (λ j.
      let z = keep_from (used (R n)) c ((R n).card ∷ []) j in
      (n, omega arith, leb-true 1 (R n).card z.0, sym (alone z.1)))

  pub cards_to : (n a : ℕ) → a < n → Used (R a) → (R a).card ∈ cards_in n R
  unfolding cards_in
  cards_to zero a h u = absurd (omega arith)
  cards_to (suc n) a h u =
      equal_or a n
      (λ e.
      Memᴰ.append_right (cards_in n R)
      (keep_to (used (R n)) (R a).card ((R n).card ∷ [])
      (le-leb 1 (R n).card (rw e at u))
      (first (ap (λ (k : ℕ). (R k).card) e))))
      (λ ne. Memᴰ.append_left (keep (used (R n)) ((R n).card ∷ [])) (cards_to n a (omega arith) u))

  pub cards_distinct :
      (n : ℕ)
      → ((a b : ℕ) → a < n → b < n → Used (R a) → Used (R b) → (R a).card ≡ (R b).card → a ≡ b)
      → Distinct (cards_in n R)
  cards_distinct zero one = rw cards_none tt
  cards_distinct (suc n) one =
      let before = cards_distinct n (λ a b p q. one a b (omega arith) (omega arith)) in
      by_card (Distinct (cards_in (suc n) R)) n
      (λ u.
      rw (cards_kept n u)
      (distinct_append (cards_in n R) ((R n).card ∷ []) before (λ i. Memᴰ.not-nil i, tt) (apart u)))
      (λ z. rw (cards_same n z) before)
    where
      apart : Used (R n) → (c : ℕ) → c ∈ cards_in n R → c ∈ ((R n).card ∷ []) → ⊥
      apart u c i j =
          let z = cards_from n c i in
          let same = one z.0 n (omega (arith, z.1)) (omega arith) z.2 u (z.3 ∙ alone j) in
          omega (arith, z.1, same)

  -- ---- the loop

  -- the cards of the first s slots are the list's first entries, and the entries from `most` on are as they were
  pub record CardsLaid (most : ℕ) (before : List ℕ) (s found : ℕ) (list : List ℕ) : Type 0 where
    pub many : found ≡ used_in s R
    pub long : length list ≡ length before
    pub cards : take found list ≡ cards_in s R
    pub later : drop most list ≡ drop most before

  module _ (most : ℕ) (before : List ℕ) (room : most ≤ length before) where
    pub laid_none : CardsLaid most before 0 0 before
    laid_none =
        record { many = sym used_none; long = refl; cards = sym cards_none; later = refl }

    module _ (s found : ℕ) (list : List ℕ) (laid : CardsLaid most before s found list) (left : found < most) where
      -- a slot is left
      pub slot_left : (n : ℕ) → most ≡ used_in n R → s < n
      slot_left n e =
          below_or s n
          (λ h. h)
          (λ h. absurd (omega (arith, used_grows n s h, laid.many)))

      -- with its card, or without
      laid_used : Used (R s) → CardsLaid most before (suc s) (suc found) (set list found (R s).card)
      laid_used u =
          record {
            many = ap suc laid.many ∙ sym (used_one s u);
            long = length-set list found (R s).card ∙ laid.long;
            cards =
                take-suc-set list found (R s).card (omega (arith, laid.long))
                ∙ ap (λ (cs : List ℕ). cs ++ ((R s).card ∷ [])) laid.cards
                ∙ sym (cards_kept s u);
            later = drop-set-lt most list found (R s).card left ∙ laid.later;
          }

      laid_free : (R s).card ≡ 0 → CardsLaid most before (suc s) found (set list found (R s).card)
      laid_free z =
          record {
            many = laid.many ∙ sym (used_zero s z);
            long = length-set list found (R s).card ∙ laid.long;
            cards =
                take-set-le found list found (R s).card (omega arith) ∙ laid.cards ∙ sym (cards_same s z);
            later = drop-set-lt most list found (R s).card left ∙ laid.later;
          }

      pub laid_more :
          (card : ℕ)
          → card ≡ (R s).card
          → CardsLaid most before (s + 1) (found + bool_byte (not (eqb card 0))) (set list found card)
      laid_more card e =
          by_card (CardsLaid most before (s + 1) (found + bool_byte (not (eqb card 0))) (set list found card)) s
          (λ u.
          let more : found + bool_byte (not (eqb card 0)) ≡ suc found =
          ap (λ (t : Bool). found + bool_byte (not t)) (ne_eqb card 0 (λ z. omega (arith, e, z))) ∙ add-one found in
          rw (add-one s, more, e) (laid_used u))
          (λ z.
          let still : found + bool_byte (not (eqb card 0)) ≡ found =
          ap (λ (t : Bool). found + bool_byte (not t)) (eq-eqb card 0 (e ∙ z)) ∙ omega arith in
          rw (add-one s, still, e) (laid_free z))

    -- where none is left, all are listed
    pub laid_all :
        (n s found : ℕ) (list : List ℕ)
        → most ≡ used_in n R
        → s ≤ n
        → most ≤ found
        → CardsLaid most before s found list
        → list ≡ sets before 0 (cards_in n R)
    laid_all n s found list e within all laid =
        let same : found ≡ most = omega (arith, used_grows s n within, laid.many) in
        let cs = cards_all s n within (sym laid.many ∙ same ∙ e) in
        let long : length (cards_in n R) ≡ most = cards_length n ∙ sym e in
        sym (take-append-drop most list)
        ∙ ap₂ (λ (a b : List ℕ). a ++ b)
        (ap (λ (k : ℕ). take k list) (sym same) ∙ laid.cards ∙ cs)
        (laid.later ∙ ap (λ (k : ℕ). drop k before) (sym long))
        ∙ sym (from_start (cards_in n R) before (omega (arith, long)))
