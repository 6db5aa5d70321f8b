-- What is written into lent bytes, one run of bytes behind another. Assumes nothing.
use Rattle.std.specs.Prelude.{ℕ, ◌+◌, ◌≤◌, ◌≡◌, refl, List, [], ◌++◌, length}
use Rattle.std.proofs.Common.{ap, ◌∙◌, arith, length-append}
use Rattle.std.proofs.Math.Seq.{length-sets}
use Rattle.std.proofs.lemmas.List.Edits.{sets}
use Rattle.line.specs.Laws.{behind}
use Rattle.line.specs.declared.Pen.{Pen}

-- these bytes fit where the next go
abbrev pub HasRoom : Pen → List ℕ → Type 0
HasRoom p bytes = p.at + length bytes ≤ length p.out.now

-- q is p after these bytes: they stand where the next were to go, and the lent bytes are the same and else as before
pub record Wrote (p : Pen) (bytes : List ℕ) (q : Pen) : Type 0 where
  pub same : q.out.ghost_name ≡ p.out.ghost_name
  pub at : q.at ≡ p.at + length bytes
  pub out : q.out.now ≡ sets p.out.now p.at bytes

pub wrote_none : (p : Pen) → Wrote p [] p
wrote_none p = record { same = refl; at = omega arith; out = refl }

pub wrote_more : (p q r : Pen) (a b : List ℕ) → Wrote p a q → Wrote q b r → Wrote p (a ++ b) r
wrote_more p q r a b f g = record {
  same = g.same ∙ f.same;
  at = omega (arith, f.at, g.at, length-append a b);
  out = behind a b p.out.now q.out.now r.out.now p.at q.at f.out f.at g.out;
}

-- as many bytes as were lent
pub wrote_length : (p q : Pen) (a : List ℕ) → Wrote p a q → length q.out.now ≡ length p.out.now
wrote_length p q a f = ap length f.out ∙ length-sets p.out.now p.at a

-- what fits behind what is written
pub room_behind : (p q : Pen) (a b : List ℕ) → Wrote p a q → HasRoom p (a ++ b) → HasRoom q b
room_behind p q a b f h = omega (arith, f.at, wrote_length p q a f, length-append a b, h)

pub room_front : (p : Pen) (a b : List ℕ) → HasRoom p (a ++ b) → HasRoom p a
room_front p a b h = omega (arith, length-append a b, h)
