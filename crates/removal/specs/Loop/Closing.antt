-- Loop: "the parent's later children move up one place", step by step: the first k child slots closed up without v
-- (`closing`), and all of them (`disowning_is`). Assumes nothing.
use Prim.Native.Nat.{ℕ, zero, suc, ◌+◌, ◌-◌, ◌≤◌, ◌<◌}
use Rattle.std.specs.Prelude.{◌≡◌, Bool, true, false, cond, eqb, take}
use Rattle.std.proofs.Math.Path.{refl, sym, ap}
use Rattle.std.proofs.Common.{◌∙◌, add-one, take-suc, ext_get_or, eq-eqb, ne_eqb}
use mathlib.Core.List.{List, [], ◌∷◌, ◌++◌, append_assoc, append-nil}
use native.Mathlib.Omega.{arith}
use Rattle.std.proofs.Math.ListN.{length, get_or, set, drop, replicate, length-append, length-drop, length-replicate}
use Rattle.std.proofs.lemmas.List.{get_or-replicate}
use Rattle.std.proofs.Math.Seq.{set_at, drop-cons, get_or-append-add, get_or-drop}
use Rattle.refusals.specs.Limits.{most_children}
use Rattle.table.specs.Record.{Record, slot, no_slot, children}
use Rattle.writing.specs.Put.{with_slots, with_slot, with_count}
use Rattle.tree.specs.Remove.{except}
use Rattle.removal.specs.Removal.{disowning}

-- how many of the first k stay
abbrev pub kept : ℕ → List ℕ → ℕ → ℕ
kept v l k = length (except v (take k l))

-- those of the first k that stay stand first, and the others are as they were
unfoldable pub closing : ℕ → List ℕ → ℕ → List ℕ
closing v l k = except v (take k l) ++ drop (kept v l k) l

-- ---- its laws

except_append : (v : ℕ) (a b : List ℕ) → except v (a ++ b) ≡ except v a ++ except v b
unfolding except
except_append v [] b = refl
except_append v (x ∷ a) b = go (eqb x v) (except_append v a b)
  where
    go : (t : Bool) → except v (a ++ b) ≡ except v a ++ except v b
        → cond t (except v (a ++ b)) (x ∷ except v (a ++ b)) ≡ cond t (except v a) (x ∷ except v a) ++ except v b
    go true h = h
    go false h = ap (x ∷◌) h

except_at_most : (v : ℕ) (l : List ℕ) → length (except v l) ≤ length l
unfolding except
except_at_most v [] = omega arith
except_at_most v (x ∷ l) = go (eqb x v) (except_at_most v l)
  where
    go : (t : Bool) → length (except v l) ≤ length l → length (cond t (except v l) (x ∷ except v l)) ≤ suc (length l)
    go true h = omega arith
    go false h = omega arith

take_at_most : (k : ℕ) (l : List ℕ) → length (take k l) ≤ k
take_at_most zero l = omega arith
take_at_most (suc k) [] = omega arith
take_at_most (suc k) (x ∷ l) = omega (arith, take_at_most k l)

pub kept_at_most : (v : ℕ) (l : List ℕ) (k : ℕ) → kept v l k ≤ k
kept_at_most v l k = omega (arith, except_at_most v (take k l), take_at_most k l)

pub closing_none : (v : ℕ) (l : List ℕ) → closing v l 0 ≡ l
unfolding closing except
closing_none v l = refl

pub kept_none : (v : ℕ) (l : List ℕ) → kept v l 0 ≡ 0
unfolding except
kept_none v l = refl

module _ (v : ℕ) (l : List ℕ) (k : ℕ) (within : k < length l) where
  -- slot k is as it was
  pub closing_at : get_or (closing v l k) k 0 ≡ get_or l k 0
  unfolding closing
  closing_at =
      let w = kept v l k in
      let e : k ≡ w + (k - w) = omega (arith, kept_at_most v l k) in
      ap (λ (i : ℕ). get_or (except v (take k l) ++ drop w l) i 0) e
      ∙ get_or-append-add (except v (take k l)) (drop w l) (k - w) 0
      ∙ get_or-drop w l (k - w) 0
      ∙ ap (λ (i : ℕ). get_or l i 0) (sym e)

  next : except v (take (k + 1) l) ≡ except v (take k l) ++ except v (get_or l k 0 ∷ [])
  next = rw (add-one k, take-suc l k 0 within) (except_append v (take k l) (get_or l k 0 ∷ []))

  -- v is passed over
  pub closing_out : get_or l k 0 ≡ v → (closing v l k ≡ closing v l (k + 1)) × (kept v l k ≡ kept v l (k + 1))
  unfolding closing
  closing_out e =
      let same : except v (take k l) ≡ except v (take (k + 1) l) = sym (next ∙ gone) in
      (ap (λ (m : List ℕ). m ++ drop (length m) l) same, ap length same)
    where
      gone : except v (take k l) ++ except v (get_or l k 0 ∷ []) ≡ except v (take k l)
      gone = unfold except in rw (eq-eqb (get_or l k 0) v e, append-nil)

  -- any other moves up
  pub closing_in :
      (get_or l k 0 ≡ v → ⊥)
      → (set (closing v l k) (kept v l k) (get_or l k 0) ≡ closing v l (k + 1)) × (kept v l k + 1 ≡ kept v l (k + 1))
  unfolding closing
  closing_in ne =
      let m = except v (take k l) in
      let c = get_or l k 0 in
      let more : except v (take (k + 1) l) ≡ m ++ (c ∷ []) = next ∙ stays in
      let count : kept v l k + 1 ≡ kept v l (k + 1) = sym (ap length more ∙ length-append m (c ∷ [])) in
      let split : drop (length m) l ≡ get_or l (length m) 0 ∷ drop (suc (length m)) l =
      drop-cons l (length m) 0 (omega (arith, kept_at_most v l k)) in (
        ap (λ (q : List ℕ). set (m ++ q) (length m) c) split
            ∙ set_at m (get_or l (length m) 0) (drop (suc (length m)) l) c (length m) refl
            ∙ sym (append_assoc m (c ∷ []) (drop (suc (length m)) l))
            ∙ ap (λ (i : ℕ). (m ++ (c ∷ [])) ++ drop i l) (sym (add-one (length m)) ∙ count)
            ∙ ap (λ (q : List ℕ). q ++ drop (kept v l (k + 1)) l) (sym more),
        count,
      )
    where
      stays : except v (take k l) ++ except v (get_or l k 0 ∷ []) ≡ except v (take k l) ++ (get_or l k 0 ∷ [])
      stays = unfold except in rw (ne_eqb (get_or l k 0) v ne)

-- ---- all child slots closed up, the last made 65,535, and the count lowered

module _ (v : ℕ) (r : Record) (some : 1 ≤ r.count) (fits : r.count ≤ most_children)
    (eight : length r.slots ≡ most_children)
    (left : suc (length (except v (children r))) ≡ r.count)
    (past : (i : ℕ) → r.count ≤ i → i < most_children → slot r i ≡ no_slot) where
  slots_closed :
      set (closing v r.slots r.count) (r.count - 1) no_slot
      ≡ except v (children r) ++ replicate (9 - r.count) no_slot
  unfolding closing
  slots_closed =
      let m = except v (children r) in
      let n = r.count in
      let l = r.slots in
      let last : length m ≡ n - 1 = omega arith in
      let split : drop (length m) l ≡ get_or l (length m) 0 ∷ drop (suc (length m)) l =
      drop-cons l (length m) 0 (omega arith) in
      ap (λ (q : List ℕ). set (m ++ q) (n - 1) no_slot) split
      ∙ set_at m (get_or l (length m) 0) (drop (suc (length m)) l) no_slot (n - 1) last
      ∙ ap (λ (q : List ℕ). m ++ q) rest
    where
      rest : no_slot ∷ drop (suc (length (except v (children r)))) r.slots ≡ replicate (9 - r.count) no_slot
      rest =
          let n = r.count in
          let k : 9 - n ≡ suc (most_children - n) = omega arith in
          rw (left, k)
          (ap (no_slot ∷◌)
          (ext_get_or 0 (drop n r.slots) (replicate (most_children - n) no_slot)
          (length-drop n r.slots ∙ omega (arith, length-replicate (most_children - n) no_slot))
          (λ i h.
          let b : i < most_children - n = omega (arith, length-drop n r.slots) in
          get_or-drop n r.slots i 0
          ∙ past (n + i) (omega arith) (omega arith)
          ∙ sym (get_or-replicate (most_children - n) i no_slot 0 b))))

  pub disowning_is :
      with_count (with_slot (with_slots r (closing v r.slots r.count)) (r.count - 1) no_slot) (r.count - 1)
      ≡ disowning v r
  unfolding disowning
  disowning_is = ap (λ (ss : List ℕ). with_count (with_slots r ss) (r.count - 1)) slots_closed

-- v is a child of r, whose children are few, each once, and whose other slots are 65,535
pub record Hosts (v : ℕ) (r : Record) : Type 0 where
  pub some : 1 ≤ r.count
  pub to_8 : r.count ≤ most_children
  pub left : suc (length (except v (children r))) ≡ r.count
  pub past : (i : ℕ) → r.count ≤ i → i < most_children → slot r i ≡ no_slot
