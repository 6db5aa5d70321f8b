-- Lists of slots: membership, no slot twice, a list kept or dropped, and their laws. Assumes nothing.
use Rattle.std.specs.Prelude.{ℕ, suc, ◌≤◌, Bool, true, false, ◌≡◌, refl, length}
use Rattle.std.proofs.lemmas.Bool.{false≢true}
use Rattle.std.proofs.Common.{sym, ap, ◌∙◌, arith}
use mathlib.Core.List.Memᴰ
use mathlib.Core.List.{List, [], ◌∷◌, ◌++◌, map, flat_map}
use mathlib.Core.List.Memᴰ.{head as first}
use mathlib.Core.List.Memᴰ.{tail as later}
use mathlib.Core.List.{Memᴰ}
use mathlib.Core.List.Sublistᴰ
use mathlib.Core.List.{Sublistᴰ}
use Rattle.std.proofs.Math.Decide.{ℕ_discrete}
use Rattle.places.specs.Cases.{either}

infix 50 ◌∈◌
infix 50 ◌⊑◌
-- a stands in the list
abbrev pub ◌∈◌ : ℕ → List ℕ → Type 0
a ∈ l = Memᴰ a l

-- the first list is the second with some left out, in the same order
abbrev pub ◌⊑◌ : List ℕ → List ℕ → Type 0
l ⊑ m = Sublistᴰ l m

-- no element twice
abbrev pub Distinct : List ℕ → Type 0
Distinct [] = Unit {0}
Distinct (a ∷ l) = (a ∈ l → ⊥) × Distinct l

-- the list if the test holds, and nothing if not
unfoldable pub keep : Bool → List ℕ → List ℕ
keep true l = l
keep false l = []

-- ---- membership

pub ∈_decide : (a : ℕ) (l : List ℕ) → Dec (a ∈ l)
∈_decide a [] = no Memᴰ.not-nil
∈_decide a (b ∷ l) = go (ℕ_discrete a b) (∈_decide a l)
  where
    go : Dec (a ≡ b) → Dec (a ∈ l) → Dec (a ∈ (b ∷ l))
    go (yes e) w = yes (first e)
    go (no n) (yes i) = yes (later i)
    go (no n) (no m) = no (elim [ first e ↦ n e | later i ↦ m i ])

pub ⊑_∈ : {l m : List ℕ} (a : ℕ) → l ⊑ m → a ∈ l → a ∈ m
⊑_∈ a Sublistᴰ.slnil i = i
⊑_∈ a (Sublistᴰ.cons s) i = later (⊑_∈ a s i)
⊑_∈ a (Sublistᴰ.cons-cons e s) (first f) = first (f ∙ e)
⊑_∈ a (Sublistᴰ.cons-cons e s) (later i) = later (⊑_∈ a s i)

pub part_left : (l m : List ℕ) → l ⊑ l ++ m
part_left [] m = Sublistᴰ.nil-sublist m
part_left (a ∷ l) m = Sublistᴰ.cons-cons refl (part_left l m)

pub part_right : (m : List ℕ) {k l : List ℕ} → k ⊑ l → k ⊑ m ++ l
part_right [] s = s
part_right (a ∷ m) s = Sublistᴰ.cons (part_right m s)

pub part_length : {l m : List ℕ} → l ⊑ m → length l ≤ length m
part_length Sublistᴰ.slnil = omega arith
part_length (Sublistᴰ.cons s) = omega (arith, part_length s)
part_length (Sublistᴰ.cons-cons e s) = omega (arith, part_length s)

pub flat_map_from : (f : ℕ → List ℕ) (x : ℕ) (l : List ℕ) → x ∈ flat_map f l → (a : ℕ) × a ∈ l × x ∈ f a
unfolding flat_map
flat_map_from f x [] i = absurd (Memᴰ.not-nil i)
flat_map_from f x (a ∷ l) i = either (Memᴰ.append_cases (f a) i)
    (λ j. (a, first refl, j))
    (λ j. let z = flat_map_from f x l j in (z.0, later z.1, z.2))

pub flat_map_to : (f : ℕ → List ℕ) (x a : ℕ) (l : List ℕ) → a ∈ l → x ∈ f a → x ∈ flat_map f l
unfolding flat_map
flat_map_to f x a [] x3 j = elim x3 [ ]
flat_map_to f x a (b ∷ l) (first e) j = Memᴰ.append_left (flat_map f l) (rw e at j)
flat_map_to f x a (b ∷ l) (later i) j = Memᴰ.append_right (f b) (flat_map_to f x a l i j)

pub flat_map_part : (f : ℕ → List ℕ) (a : ℕ) (l : List ℕ) → a ∈ l → f a ⊑ flat_map f l
unfolding flat_map
flat_map_part f a [] x' = elim x' [ ]
flat_map_part f a (b ∷ l) (first e) = rw e (part_left (f b) (flat_map f l))
flat_map_part f a (b ∷ l) (later i) = part_right (f b) (flat_map_part f a l i)

pub flat_map_same : (f g : ℕ → List ℕ) (l : List ℕ) → ((a : ℕ) → a ∈ l → f a ≡ g a) → flat_map f l ≡ flat_map g l
unfolding flat_map
flat_map_same f g [] h = refl
flat_map_same f g (a ∷ l) h = rw (h a (first refl), flat_map_same f g l (λ b i. h b (later i)))

-- the numbers that a list's elements are sent to
pub image_from : {A B : Type 0} (f : A → B) (c : B) (l : List A) → Memᴰ c (map f l)
    → (a : A) × Memᴰ a l × (c ≡ f a)
image_from f c [] i = absurd (Memᴰ.not-nil i)
image_from f c (a ∷ l) (first e) = (a, first refl, e)
image_from f c (a ∷ l) (later i) = let z = image_from f c l i in (z.0, later z.1, z.2)

pub image_to : {A B : Type 0} (f : A → B) (a : A) (l : List A) → Memᴰ a l → Memᴰ (f a) (map f l)
image_to {A = A} {B = B} f a [] x' = elim x' [ ]
image_to f a (b ∷ l) (first e) = first (ap f e)
image_to f a (b ∷ l) (later i) = later (image_to f a l i)

-- ---- no element twice

pub distinct_append : (l m : List ℕ) → Distinct l → Distinct m → ((a : ℕ) → a ∈ l → a ∈ m → ⊥) → Distinct (l ++ m)
distinct_append [] m p q f = q
distinct_append (a ∷ l) m p q f = (
  λ i. either (Memᴰ.append_cases l i) p.0 (f a (first refl)),
  distinct_append l m p.1 q (λ b i. f b (later i)),
)

pub distinct_part : {l m : List ℕ} → l ⊑ m → Distinct m → Distinct l
distinct_part Sublistᴰ.slnil p = tt
distinct_part (Sublistᴰ.cons s) p = distinct_part s p.1
distinct_part (Sublistᴰ.cons-cons e s) p = (λ i. p.0 (rw e at (⊑_∈ _ s i)), distinct_part s p.1)

-- numbers to which no two elements are sent
pub distinct_image :
    (f : ℕ → ℕ) (l : List ℕ)
    → ((a b : ℕ) → a ∈ l → b ∈ l → f a ≡ f b → a ≡ b)
    → Distinct l
    → Distinct (map f l)
distinct_image f [] one p = tt
distinct_image f (a ∷ l) one p = (
  λ i.
      let z = image_from f (f a) l i in
      p.0 (rw (one a z.0 (first refl) (later z.1) z.2) z.1),
  distinct_image f l (λ b c i j. one b c (later i) (later j)) p.1,
)

-- lists without repeats, one for each element, that share nothing
pub distinct_flat_map : (f : ℕ → List ℕ) (l : List ℕ) → Distinct l → ((a : ℕ) → a ∈ l → Distinct (f a))
    → ((a b x : ℕ) → a ∈ l → b ∈ l → x ∈ f a → x ∈ f b → a ≡ b) → Distinct (flat_map f l)
unfolding flat_map
distinct_flat_map f [] p g h = tt
distinct_flat_map f (a ∷ l) p g h = distinct_append (f a) (flat_map f l) (g a (first refl))
    (distinct_flat_map f l p.1 (λ b i. g b (later i)) (λ b c x i j. h b c x (later i) (later j)))
    (λ x i j.
    let z = flat_map_from f x l j in
    p.0 (Memᴰ.cast (h a z.0 x (first refl) (later z.1) i z.2) z.1))

-- m less the place where a stands
del : {a : ℕ} {m : List ℕ} → a ∈ m → List ℕ
del (first {xs = xs} e) = xs
del (later {x = b} i) = b ∷ del i

del_length : {a : ℕ} {m : List ℕ} (i : a ∈ m) → length m ≡ suc (length (del i))
unfolding del
del_length (first e) = refl
del_length (later i) = ap suc (del_length i)

del_∈ : {a : ℕ} {m : List ℕ} (i : a ∈ m) (b : ℕ) → b ∈ m → (b ≡ a → ⊥) → b ∈ del i
unfolding del
del_∈ (first e) b (first f) n = absurd (n (f ∙ sym e))
del_∈ (first e) b (later j) n = j
del_∈ (later i) b (first f) n = first f
del_∈ (later i) b (later j) n = later (del_∈ i b j n)

-- a list without repeats whose elements stand in m is no longer than m
pub distinct_length : (l m : List ℕ) → Distinct l → ((a : ℕ) → a ∈ l → a ∈ m) → length l ≤ length m
distinct_length [] m p f = omega arith
distinct_length (a ∷ l) m p f =
    let i = f a (first refl) in
    let g = distinct_length l (del i) p.1 (λ b j. del_∈ i b (f b (later j)) (λ e. p.0 (rw e at j))) in
    omega (arith, g, del_length i)

-- ---- keep

pub keep_from : (b : Bool) (a : ℕ) (l : List ℕ) → a ∈ keep b l → (b ≡ true) × a ∈ l
unfolding keep
keep_from true a l i = (refl, i)
keep_from false a l i = absurd (Memᴰ.not-nil i)

pub keep_to : (b : Bool) (a : ℕ) (l : List ℕ) → b ≡ true → a ∈ l → a ∈ keep b l
unfolding keep
keep_to b a l e i = rw e i

pub keep_part : (b : Bool) {l m : List ℕ} → l ⊑ m → keep b l ⊑ m
unfolding keep
keep_part true s = s
keep_part false {l} {m} s = Sublistᴰ.nil-sublist m

pub keep_more : (b c : Bool) {l m : List ℕ} → (b ≡ true → c ≡ true) → l ⊑ m → keep b l ⊑ keep c m
unfolding keep
keep_more true true f s = s
keep_more true false f s = absurd (false≢true (f refl))
keep_more false c f s = Sublistᴰ.nil-sublist _
