-- Laws of the processes of a listing.
use Rattle.std.proofs.Common.{Option, None, Some}
use Prim.Native.Nat.{ℕ, ◌+◌, ◌-◌, ◌<◌}
use Prim.Native.String.{String}
use mathlib.Core.Path.{◌≡◌, refl, sym, ◌∙◌, ap}
use mathlib.Core.Bool.{Bool, true, false, cond}
use mathlib.Core.Option.{Option as Maybe, some}
use mathlib.Core.List.{List, [], ◌∷◌, ◌++◌, map}
use native.Mathlib.Omega.{arith}
use native.Mathlib.Numerals.{add-one}
use lib.Dec.{eqb}
use lib.ListN.{length, length-append}
use Rattle.lists.specs.Lists.{All, keep, joined, up_to}
use Rattle.lists.proofs.Tests.{eqb_of, cond_true}
use Rattle.lists.proofs.Lists.{keep_nil, keep_true, keep_false, keep_append}
use Rattle.lists.proofs.All.{maps_after, map_agree, all_so}
use Rattle.rules.specs.State.{Message, Kind, seq, send, rec, spawn, self, check, Entry, Process, State, history_of, history_at, entry_at, in_pool}
use Rattle.rules.specs.Listing.{kind_name, newest_name, message_text, process_lines}
use Rattle.demands.proofs.Frame.{process_of, no_process_lem}
use Rattle.store.specs.Layout.{kind_number, name_word}
use Rattle.store.proofs.SoundStates.{storable}
use Rattle.store.proofs.Restoring.{Kept}
use Rattle.text.specs.Lines.{name_in, newest_text, process_text}
use Rattle.text.specs.Written.{far, onward, Wrote}
use Rattle.kinds.specs.declared.Kind.{Kind as EntryKind}
use Rattle.kinds.specs.declared.Kind.TheVariants.{Seq, Send, Rec, Spawn, Own, Check}
use Rattle.text.proofs.WritingLaws.{wrote_none}
use Rattle.text.proofs.ListingLaws.{name_in_lem, process_lines_lem, wrote_place}
use Rattle.reading.specs.Reads.{OfState, control_of, control_at, IsEntry, OfEntry, number_of}
use Rattle.listing.specs.Listed.{places_text}

-- ---- kinds

-- the names of the kinds in the order of their numbers
unfoldable name_at : ℕ → String
name_at n = cond (eqb n 1) "seq" (cond (eqb n 2) "send" (cond (eqb n 3) "rec" (cond (eqb n 4) "spawn" (cond (eqb n 5) "self" "check"))))

name_at_lem : (k : Kind) → name_at (kind_number k) ≡ kind_name k
unfolding name_at kind_number kind_name
name_at_lem seq = refl
name_at_lem (send target value) = refl
name_at_lem (rec older m newer) = refl
name_at_lem (spawn child) = refl
name_at_lem self = refl
name_at_lem (check number) = refl

name_of : (r : EntryKind) → newest_text (Some r) ≡ name_at (number_of r)
unfolding name_at newest_text
name_of Seq = refl
name_of Send = refl
name_of Rec = refl
name_of Spawn = refl
name_of Own = refl
name_of Check = refl

named : (r : EntryKind) (k : Kind) → number_of r ≡ kind_number k → newest_text (Some r) ≡ kind_name k
named r k e = name_of r ∙ ap name_at e ∙ name_at_lem k

-- ---- the newest entry

newest_of : (h : List Entry) (count : ℕ) (r : EntryKind) → count ≡ length h → ¬ (count ≡ 0) → ((e : Entry) → entry_at h (count - 1) ≡ some e → number_of r ≡ kind_number e.kind)
    → newest_text (Some r) ≡ newest_name h
unfolding newest_name entry_at
newest_of [] count r n z f = absurd (z n)
newest_of (e ∷ older) count r n z f =
    named r e.kind (f e (cond_true (some e) (entry_at older (count - 1)) (eqb_of (length older) (count - 1) (omega arith))))

module _ (l : List ℕ) (p count : ℕ) where
  pub newest_none : OfState l (λ s. count ≡ length (history_at s p)) → count ≡ 0 → OfState l (λ s. newest_text None ≡ newest_name (history_at s p))
  unfolding OfState newest_name newest_text
  newest_none f z s rest x = go (history_at s p) (sym (f s rest x) ∙ z)
    where
      go : (h : List Entry) → length h ≡ 0 → newest_text None ≡ newest_name h
      go [] n = refl
      go (e ∷ older) n = absurd (omega arith)

  pub newest_entry : OfState l (λ s. count ≡ length (history_at s p)) → ¬ (count ≡ 0) → OfState l (IsEntry p (count - 1))
  unfolding OfState
  newest_entry f z s rest x = let n = f s rest x in omega arith

  pub newest_is : (r : EntryKind) → OfState l (λ s. count ≡ length (history_at s p)) → ¬ (count ≡ 0) → OfState l (OfEntry p (count - 1) (λ e. number_of r ≡ kind_number e.kind))
      → OfState l (λ s. newest_text (Some r) ≡ newest_name (history_at s p))
  unfolding OfState OfEntry
  newest_is r f z g s rest x = newest_of (history_at s p) count r (f s rest x) z (g s rest x)

-- ---- how many places are in the pool

module _ (test : ℕ → Bool) where
  pub kept_next : (n : ℕ) → test n ≡ true → keep test (up_to (n + 1)) ≡ keep test (up_to n) ++ (n ∷ [])
  unfolding up_to
  kept_next n e = rw (add-one n) (keep_append test (up_to n) (n ∷ []) ∙ ap (λ (r : List ℕ). keep test (up_to n) ++ r) (keep_true test n [] e ∙ ap (λ (r : List ℕ). n ∷ r) (keep_nil test)))

  pub kept_same : (n : ℕ) → test n ≡ false → keep test (up_to (n + 1)) ≡ keep test (up_to n) ++ []
  unfolding up_to
  kept_same n e = rw (add-one n) (keep_append test (up_to n) (n ∷ []) ∙ ap (λ (r : List ℕ). keep test (up_to n) ++ r) (keep_false test n [] e ∙ keep_nil test))

pub counted_none : (l : List ℕ) → OfState l (λ s. 0 ≡ length (keep (in_pool s) (up_to 0)))
unfolding OfState up_to
counted_none l s rest x = sym (ap length (keep_nil (in_pool s)))

module _ (l : List ℕ) (p count : ℕ) where
  pub counted_more : (b : Bool) (more : ℕ) → more ≡ count + 1 → OfState l (λ s. count ≡ length (keep (in_pool s) (up_to p))) → OfState l (λ s. b ≡ in_pool s p) → b ≡ true → OfState l (λ s. more ≡ length (keep (in_pool s) (up_to (p + 1))))
  unfolding OfState
  counted_more b more m f g t s rest x =
      let n = f s rest x in
      omega (arith, ap length (kept_next (in_pool s) p (sym (g s rest x) ∙ t)), length-append (keep (in_pool s) (up_to p)) (p ∷ []))

  pub counted_same : (b : Bool) (same : ℕ) → same ≡ count → OfState l (λ s. count ≡ length (keep (in_pool s) (up_to p))) → OfState l (λ s. b ≡ in_pool s p) → b ≡ false → OfState l (λ s. same ≡ length (keep (in_pool s) (up_to (p + 1))))
  unfolding OfState
  counted_same b same m f g t s rest x =
      let n = f s rest x in
      omega (arith, ap length (kept_same (in_pool s) p (sym (g s rest x) ∙ t)), length-append (keep (in_pool s) (up_to p)) [])

  pub counted_all : (end : ℕ) → OfState l (λ s. end ≡ s.sizes.places) → p ≡ end → OfState l (λ s. count ≡ length (keep (in_pool s) (up_to p))) → OfState l (λ s. count ≡ length (keep (in_pool s) (up_to s.sizes.places)))
  unfolding OfState
  counted_all end f e g s rest x = g s rest x ∙ ap (λ (n : ℕ). length (keep (in_pool s) (up_to n))) (e ∙ f s rest x)

-- ---- the lines of a place

-- the names of a queue, as words and as texts
queue_texts : (s : State) (queue : List Message) → All (Kept s) queue → map name_in (map name_word queue) ≡ map message_text queue
unfolding message_text
queue_texts s queue kept =
    maps_after name_word name_in queue ∙ map_agree (λ m. name_in (name_word m)) message_text queue (all_so (λ m k. name_in_lem m.sender m.count k.small) queue kept)

module _ (l : List ℕ) (p at e : ℕ) (old : List ℕ) where
  -- none, where no process is
  pub no_lines : (b : Bool) → OfState l (λ s. b ≡ in_pool s p) → b ≡ false → e ≡ onward (at + 0) → length old < far → OfState l (λ s. Wrote (process_lines p (s.queues p) (s.processes p)) at old old e)
  unfolding OfState process_lines
  no_lines b f t r short s rest x = rw (no_process_lem s p (sym (f s rest x) ∙ t), process_lines) (wrote_none old at e r short)

  pub five_lines : (b : Bool) (entries : ℕ) (newest : Option EntryKind) (names words new : List ℕ) → OfState l (λ s. b ≡ in_pool s p) → b ≡ true
      → OfState l (λ s. entries ≡ length (history_at s p)) → OfState l (λ s. newest_text newest ≡ newest_name (history_at s p)) → OfState l (λ s. names ≡ map name_word (s.queues p)) → OfState l (λ s. words ≡ control_at s p)
      → Wrote (process_text p entries newest names words) at old new e → OfState l (λ s. Wrote (process_lines p (s.queues p) (s.processes p)) at old new e)
  unfolding OfState history_at history_of control_at control_of
  five_lines b entries newest names words new f t n k q c w s rest x =
      go (s.processes p) (process_of s p (sym (f s rest x) ∙ t)) (n s rest x) (k s rest x) (c s rest x)
    where
      go : (o : Maybe Process) → (a : Process) × (o ≡ some a) → entries ≡ length (history_of o) → newest_text newest ≡ newest_name (history_of o) → words ≡ control_of o → Wrote (process_lines p (s.queues p) o) at old new e
      go o (a, i) n k c =
          rw i (rw (process_lines_lem p a (s.queues p) entries newest names words (rw i at n) (rw i at k) (ap (map name_in) (q s rest x) ∙ queue_texts s (s.queues p) ((storable s x.sound).queue p).each) (rw i at c)) at w)

-- ---- the lines of all places

module _ (l : List ℕ) (at to : ℕ) (old : List ℕ) where
  pub places_none : to ≡ onward (at + 0) → length old < far → OfState l (λ s. Wrote (places_text s 0) at old old to)
  unfolding OfState places_text up_to joined
  places_none r short s rest x = wrote_none old at to r short

  pub places_more : (p end : ℕ) (mid new : List ℕ) → OfState l (λ s. Wrote (places_text s p) at old mid to) → OfState l (λ s. Wrote (process_lines p (s.queues p) (s.processes p)) to mid new end) → OfState l (λ s. Wrote (places_text s (p + 1)) at old new end)
  unfolding OfState places_text
  places_more p end mid new f g s rest x = wrote_place (λ p. process_lines p (s.queues p) (s.processes p)) p (f s rest x) (g s rest x)

  pub places_all : (p end : ℕ) (new : List ℕ) → OfState l (λ s. end ≡ s.sizes.places) → p ≡ end → OfState l (λ s. Wrote (places_text s p) at old new to) → OfState l (λ s. Wrote (places_text s s.sizes.places) at old new to)
  unfolding OfState
  places_all p end new f e g s rest x = rw (e ∙ f s rest x) at (g s rest x)
