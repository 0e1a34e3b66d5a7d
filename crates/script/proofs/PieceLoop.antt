-- What a call of the runner hands back, from what it wrote; and the loop over a piece.
--     worked                    a call that stores at the front of the output
--     stepped                   .. and has used some input
--     Held                      the loop over a piece: so far `at` bytes are used and w bytes written
--     tail_back                 a part at the end, put back
--     held_more                 one call more
--     held_done                 its end
--     loop_more, loop_done      both, as the loop cuts off what is left of the piece
--     headed_done               a piece whose call writes the heading first
-- Assumes nothing.
use Prim.Native.Nat.{ℕ, ◌+◌, ◌-◌, ◌≤◌, ◌<◌}
use mathlib.Core.Path.{◌≡◌, refl, ap, sym, ◌∙◌}
use mathlib.Core.Bool.{Bool}
use mathlib.Core.List.{List, [], ◌++◌, append-nil}
use lib.ListN.{length, take, drop, length-append, length-drop, drop_of_length-le}
use lib.Seq.{length-take-le, take-append-add, drop-append-add, drop-drop}
use native.Mathlib.Nat.{zero-add}
use native.Mathlib.Omega.{arith}
use borrow.Rule.Slice.PartMut.{put_mid}
use Rattle.script.specs.Report.{heading}
use Rattle.script.specs.Private.Slices.{Put}
use Rattle.script.specs.declared.runner.Phase.TheVariants.{Heading}
use Rattle.script.specs.Run.{Goes, Worked, Finished}
use Rattle.script.specs.Private.Steps.{Stepped}
use Rattle.script.specs.declared.runner.Runner.{Runner}
use Rattle.script.specs.declared.runner.Ran.{Ran}
use Rattle.script.proofs.Texts.{heading_length}
use Rattle.script.proofs.ValuesInTurn.{to_end}
use Rattle.script.proofs.LeftToTell.{goes_then, Front, front}
use Rattle.script.proofs.Onward.{headed, goes_heading}

-- ---- one call
abbrev pub ran : Runner → ℕ → ℕ → Ran
ran r u n = record { runner = r; used = u; wrote = n }

pub worked_none : (r r2 : Runner) (s : List ℕ) (e : Bool) (old : List ℕ) (u : ℕ) → u ≤ length s → Goes e r s [] r2 (drop u s)
    → Worked r s e old old (ran r2 u 0)
worked_none r r2 s e old u h g = record { within = h; room = omega arith; frame = refl; goes = g }

pub worked : (r r2 : Runner) (s : List ℕ) (e : Bool) (old new w : List ℕ) (u n : ℕ) → Put old 0 w new n → length w ≤ length old
    → u ≤ length s → Goes e r s w r2 (drop u s) → Worked r s e old new (ran r2 u n)
worked r r2 s e old new w u n p l h g =
    let f : Front old new w n = front p l in
    record { within = h; room = f.room; frame = f.frame; goes = rw f.text g }

none_used : (u : ℕ) → 0 < u → u ≡ 0 → ⊥
none_used u h z = omega arith

pub stepped : {r : Runner} {piece old new : List ℕ} {end : Bool} {x : Ran} → Worked r piece end old new x → (x.runner.phase ≡ Heading → ⊥) → 0 < x.used
    → Stepped r piece end old new x
stepped {x = x} k b h = record { did = k; begun = b; stops = λ z. absurd (none_used x.used h z) }

-- ---- the loop over a piece
pub record Held (piece : List ℕ) (end : Bool) (old : List ℕ) (r0 : Runner) (out : List ℕ) (r : Runner) (at w : ℕ) : Type 0 where
  pub within : at ≤ length piece
  pub room : w ≤ length out
  pub same : length out ≡ length old
  pub frame : drop w out ≡ drop w old
  pub goes : Goes end r0 piece (take w out) r (drop at piece)

pub tail_back : (w : ℕ) (out ys : List ℕ) → put_mid w (length out - w) out ys ≡ take w out ++ ys
tail_back w out ys =
    ap (λ (l : List ℕ). take w out ++ (ys ++ l)) (drop_of_length-le (drop w out) {i = length out - w} (rw length-drop (omega arith)))
    ∙ (rw append-nil)

-- the part of the piece that the call is made on is what is left of it
module _ {piece old out ys part : List ℕ} {end : Bool} {r0 r : Runner} {x : Ran} {at w : ℕ} (h : Held piece end old r0 out r at w)
    (p : part ≡ drop at piece) (m : length ys ≡ length (take (length out - w) (drop w out))) where
  pub held_more : Worked r part end (take (length out - w) (drop w out)) ys x
      → Held piece end old r0 (put_mid w (length out - w) out ys) x.runner (at + x.used) (w + x.wrote)
  held_more k =
      let n : ℕ = x.wrote in
      let lp : length part ≡ length piece - at = ap length p ∙ length-drop at piece in
      let lo : length (take (length out - w) (drop w out)) ≡ length out - w = ap length (to_end w out) ∙ length-drop w out in
      let t : length (take w out) ≡ w = length-take-le w out h.room in
      let la : length (take w out ++ ys) ≡ length out = omega (arith, length-append (take w out) ys, h.room) in
      let fr : drop (w + n) (take w out ++ ys) ≡ drop n ys = rw t at (drop-append-add (take w out) ys n) in
      let tk : take (w + n) (take w out ++ ys) ≡ take w out ++ take n ys = rw t at (take-append-add (take w out) ys n) in
      let kf : drop n ys ≡ drop n (drop w out) = k.frame ∙ ap (drop n) (to_end w out) in
      let kg : Goes end r (drop at piece) (take n ys) x.runner (drop x.used (drop at piece)) = rw p at k.goes in
      rw (tail_back w out ys)
      (record {
        within = omega (arith, k.within, h.within);
        room = omega (arith, k.room, h.room);
        same = la ∙ h.same;
        frame = fr ∙ kf ∙ ap (drop n) h.frame ∙ drop-drop n w old;
        goes = rw (tk, ← drop-drop x.used at piece) (goes_then end r0 r x.runner piece (drop at piece) (drop x.used (drop at piece)) (take w out) (take n ys) h.goes kg);
      })

pub held_worked : {piece old out : List ℕ} {end : Bool} {r0 r : Runner} {at w : ℕ} → Held piece end old r0 out r at w
    → Worked r0 piece end old out (ran r at w)
held_worked h = record { within = h.within; room = omega (arith, h.room, h.same); frame = h.frame; goes = h.goes }

-- ---- the end of the loop: a call that stops
module _ {piece old out ys part : List ℕ} {end : Bool} {r0 r : Runner} {x : Ran} {at w : ℕ} (h : Held piece end old r0 out r at w)
    (p : part ≡ drop at piece) (m : length ys ≡ length (take (length out - w) (drop w out))) where
  pub held_done : Finished r part end (take (length out - w) (drop w out)) ys x
      → Finished r0 piece end old (put_mid w (length out - w) out ys) (ran x.runner (at + x.used) (w + x.wrote))
  held_done k =
      let lo : length (take (length out - w) (drop w out)) ≡ length out - w = ap length (to_end w out) ∙ length-drop w out in
      let left : drop (at + x.used) piece ≡ drop x.used part = sym (ap (drop x.used) p ∙ drop-drop x.used at piece) in
      let room : length old - (w + x.wrote) ≡ length (take (length out - w) (drop w out)) - x.wrote = omega (arith, h.same) in
      record {
        did = held_worked (held_more h p m k.did);
        stops = rw (left, room) k.stops;
      }

-- ---- as the loop cuts off what is left of the piece
module _ {piece old out ys : List ℕ} {end : Bool} {r0 r : Runner} {x : Ran} {at w : ℕ} (h : Held piece end old r0 out r at w)
    (m : length ys ≡ length (take (length out - w) (drop w out)))
    (k : Stepped r (take (length piece - at) (drop at piece)) end (take (length out - w) (drop w out)) ys x) where
  pub loop_more : Held piece end old r0 (put_mid w (length out - w) out ys) x.runner (at + x.used) (w + x.wrote)
  loop_more = held_more h (to_end at piece) m k.did

  pub loop_done : x.used ≡ 0 → Finished r0 piece end old (put_mid w (length out - w) out ys) (ran x.runner (at + x.used) (w + x.wrote))
  loop_done z = held_done h (to_end at piece) m (record { did = k.did; stops = k.stops z })

-- ---- the heading, and what is done after it
pub heading_wrote : {old new : List ℕ} {n : ℕ} → Put old 0 heading new n → n ≡ 12
heading_wrote p = omega (arith, p.next, heading_length)

held_heading : (piece : List ℕ) (end : Bool) (old new : List ℕ) (r : Runner) (n : ℕ) → r.phase ≡ Heading → 12 ≤ length old → length new ≡ length old
    → Put old 0 heading new n → Held piece end old r new (headed r) 0 n
held_heading piece end old new r n z l m p =
    let f : Front old new heading n = front p (omega (arith, heading_length)) in
    record {
      within = omega arith;
      room = omega (arith, f.room);
      same = m;
      frame = f.frame;
      goes = rw f.text (goes_heading end r piece z);
    }

module _ {piece old out ys : List ℕ} {end : Bool} {r : Runner} {x : Ran} {n : ℕ} (z : r.phase ≡ Heading) (l : 12 ≤ length old)
    (o : length out ≡ length old) (p : Put old 0 heading out n) (m : length ys ≡ length (take (length out - n) (drop n out))) where
  pub headed_done : Finished (headed r) piece end (take (length out - n) (drop n out)) ys x
      → Finished r piece end old (put_mid n (length out - n) out ys) (ran x.runner x.used (n + x.wrote))
  headed_done k = rw zero-add at (held_done (held_heading piece end old out r n z l o p) refl m k)
