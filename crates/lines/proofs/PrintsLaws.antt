-- What is still to be printed, from a store and the lines that are to come; its laws for a reply, for the listing and after a load.
use Prim.Native.Nat.{ℕ, ◌≤◌}
use mathlib.Core.Path.{◌≡◌, refl, sym, ◌∙◌, ap, subst}
use mathlib.Core.Logic.{◌≢◌, inl, inr}
use mathlib.Core.Bool.{Bool, true, ◌&&◌}
use mathlib.Core.Option.{Option, none, some}
use mathlib.Core.List.{List, [], ◌∷◌, ◌++◌, append-nil}
use native.Mathlib.Omega.{arith}
use lib.Dec.{leb}
use lib.ListN.{length, take, drop}
use lib.Seq.{take-append_seam}
use Rattle.lists.proofs.Tests.{true_or_false, and_of, leb_of}
use Rattle.rules.specs.Answers.{done, bad_sizes, not_a_state, no_room, bad_line}
use Rattle.rules.specs.State.{Sizes, State}
use Rattle.rules.specs.Load.{good_sizes, Load, loads, load}
use Rattle.rules.specs.Load as rules-load
use Rattle.rules.specs.Commands.{run}
use Rattle.rules.specs.Sound.{Sound}
use Rattle.rules.specs.Line.{Request, single, rollback_to, parse_line}
use Rattle.rules.specs.Listing.{listing}
use Rattle.rules.specs.Rollback.{RolledBack, refused, rolled, rollback}
use Rattle.rules.specs.Replies.{of_rollback, perform, undone_line, answer_line, replies, without_state, after_load}
use Rattle.demands.proofs.Consequences.{consequences}
use Rattle.store.specs.Layout.{needed, image}
use Rattle.store.specs.Image.{IsImage}
use Rattle.store.specs.Loading.{Outcome, load_into}
use Rattle.store.proofs.LoadCodeAnswers.{into_short, into_load}
use Rattle.store.specs.Loading as loading
use Rattle.calls.specs.Calls.{outcome, count_in, stored, RequestCall, AskedCall, LineCall, written, ListingCall, LoadCall}
use Rattle.calls.specs.Numbers.{Answer, number_of, value_of, TextCall, Lists}
use Rattle.replies.specs.Replied.{rolls_back, undone_by, reply_text}
use Rattle.replies.proofs.LineLaws.{single_undone, refused_undone, rolled_undone}
use Rattle.lines.proofs.AfterRequest.{sound_after, plan_undone, NotDone, rollback_not_done}

-- what the rules reply in the state whose image the store begins with, or where it begins with none
pub record Prints (store : List ℕ) (lines : List (List ℕ)) (text : List ℕ) : Type 0 where
  pub on_image : (s : State) (rest : List ℕ) → Sound s → store ≡ image s ++ rest → text ≡ replies s lines
  pub elsewhere : ¬ IsImage store → text ≡ without_state lines

-- ---- what the rules reply to a line

module _ (line : List ℕ) (lines : List (List ℕ)) where
  replies_none : (s : State) → parse_line line ≡ none → replies s (line ∷ lines) ≡ answer_line bad_line ++ replies s lines
  unfolding replies
  replies_none s e = rw (e, replies) refl

  replies_some : (s : State) (request : Request) → parse_line line ≡ some request
      → replies s (line ∷ lines) ≡ answer_line (perform request s).number ++ undone_line (perform request s).undone ++ replies (perform request s).after lines
  unfolding replies
  replies_some s request e = rw (e, replies) refl

  without_none : parse_line line ≡ none → without_state (line ∷ lines) ≡ answer_line bad_line ++ without_state lines
  unfolding without_state
  without_none e = rw (e, without_state) refl

  without_some : (request : Request) → parse_line line ≡ some request → without_state (line ∷ lines) ≡ answer_line not_a_state ++ without_state lines
  unfolding without_state
  without_some request e = rw (e, without_state) refl

-- ---- what a reply says

module _ (asked : Option Request) (a : Answer) where
  text_is : (number : ℕ) (undone : Option ℕ) → number_of a ≡ number → undone_by asked a ≡ undone → reply_text asked a ≡ answer_line number ++ undone_line undone
  unfolding reply_text
  text_is number undone n u = rw (n, u) refl

  -- a refusal: just its number
  refused_is : (number : ℕ) → number_of a ≡ number → number ≢ done → reply_text asked a ≡ answer_line number
  unfolding undone_line
  refused_is number n not = text_is number none n (refused_undone asked a (λ z. not (sym n ∙ z))) ∙ append-nil (answer_line number)

undone_rolled : (p t : ℕ) (s : State) (a : Answer) (r : RolledBack) → NotDone r → number_of a ≡ (of_rollback s r).number → value_of a ≡ count_in (of_rollback s r).undone
    → undone_by (some (rollback_to p t)) a ≡ (of_rollback s r).undone
unfolding of_rollback count_in rolls_back
undone_rolled p t s a (refused number) not n v = refused_undone _ a (λ z. not (sym n ∙ z))
undone_rolled p t s a (rolled count end) not n v = rolled_undone _ a refl n ∙ ap some v

undone_is : (request : Request) (s : State) (a : Answer) → number_of a ≡ (perform request s).number → value_of a ≡ count_in (perform request s).undone → undone_by (some request) a ≡ (perform request s).undone
unfolding perform rolls_back
undone_is (single c) s a n v = single_undone _ a refl ∙ sym (plan_undone s (run c s))
undone_is (rollback_to p t) s a n v = undone_rolled p t s a (rollback p t s) (rollback_not_done p t s _ _ refl refl) n v

-- ---- a line

module _ (line : List ℕ) (lines : List (List ℕ)) (a : Answer) (entry exit text : List ℕ) where
  said_on : (asked : Option Request) → parse_line line ≡ asked → AskedCall asked entry (outcome (number_of a) (value_of a) exit) → Prints exit lines text
      → (s : State) (rest : List ℕ) → Sound s → entry ≡ image s ++ rest → reply_text asked a ++ text ≡ replies s (line ∷ lines)
  unfolding AskedCall RequestCall stored
  said_on none e call p s rest sound at =
      let n : number_of a ≡ bad_line = ap (λ (o : Outcome). o.number) call in
      let l : exit ≡ entry = ap (λ (o : Outcome). o.left) call in
      let r : reply_text none a ≡ answer_line bad_line = refused_is none a bad_line n (λ z. absurd (omega (arith, z))) in
      (λ i. r i ++ p.on_image s rest sound (l ∙ at) i) ∙ sym (replies_none line lines s e)
  said_on (some request) e call p s rest sound at =
      let same = call.on_image s rest sound at in
      let n : number_of a ≡ (perform request s).number = ap (λ (o : Outcome). o.number) same in
      let v : value_of a ≡ count_in (perform request s).undone = ap (λ (o : Outcome). o.value) same in
      let l : exit ≡ image (perform request s).after ++ rest = ap (λ (o : Outcome). o.left) same in
      let r = text_is (some request) a (perform request s).number (perform request s).undone n (undone_is request s a n v) in
      (λ i. r i ++ p.on_image (perform request s).after rest (sound_after request s sound) l i) ∙ sym (replies_some line lines s request e)

  said_elsewhere : (asked : Option Request) → parse_line line ≡ asked → AskedCall asked entry (outcome (number_of a) (value_of a) exit) → Prints exit lines text
      → ¬ IsImage entry → reply_text asked a ++ text ≡ without_state (line ∷ lines)
  unfolding AskedCall RequestCall
  said_elsewhere none e call p empty =
      let n : number_of a ≡ bad_line = ap (λ (o : Outcome). o.number) call in
      let l : exit ≡ entry = ap (λ (o : Outcome). o.left) call in
      let r : reply_text none a ≡ answer_line bad_line = refused_is none a bad_line n (λ z. absurd (omega (arith, z))) in
      (λ i. r i ++ p.elsewhere (subst (λ (x : List ℕ). ¬ IsImage x) (sym l) empty) i) ∙ sym (without_none line lines e)
  said_elsewhere (some request) e call p empty =
      let same = call.elsewhere empty in
      let n : number_of a ≡ not_a_state = ap (λ (o : Outcome). o.number) same in
      let l : exit ≡ entry = ap (λ (o : Outcome). o.left) same in
      let r : reply_text (some request) a ≡ answer_line not_a_state = refused_is (some request) a not_a_state n (λ z. absurd (omega (arith, z))) in
      (λ i. r i ++ p.elsewhere (subst (λ (x : List ℕ). ¬ IsImage x) (sym l) empty) i) ∙ sym (without_some line lines request e)

-- the reply to a line, and then what is printed for the lines that follow
pub line_prints : (line entry exit : List ℕ) (a : Answer) → TextCall line entry exit a → (lines : List (List ℕ)) (text : List ℕ) → Prints exit lines text
    → Prints entry (line ∷ lines) (reply_text (parse_line line) a ++ text)
unfolding TextCall LineCall
line_prints line entry exit a call lines text p = record {
  on_image = λ s rest sound at. said_on line lines a entry exit text (parse_line line) refl call p s rest sound at;
  elsewhere = λ empty. said_elsewhere line lines a entry exit text (parse_line line) refl call p empty;
}

-- ---- the listing

written_taken : (text old new : List ℕ) (a : Answer) → outcome (number_of a) (value_of a) new ≡ written text old → number_of a ≢ no_room → take (value_of a) new ≡ text
unfolding written
written_taken text old new a e room = elim (true_or_false (leb (length text) (length old))) [
  | inl fits ↦
      let same : outcome (number_of a) (value_of a) new ≡ outcome done (length text) (text ++ drop (length text) old) = rw (fits, written) at e in
      (λ i. take (same i).value (same i).left) ∙ take-append_seam text (drop (length text) old)
  | inr over ↦
      let same : outcome (number_of a) (value_of a) new ≡ outcome no_room 0 old = rw (over, written) at e in
      absurd (room (ap (λ (o : Outcome). o.number) same))
]

pub listing_prints : (store old new : List ℕ) (a : Answer) → Lists store old new a → number_of a ≢ no_room → Prints store [] (take (value_of a) new)
unfolding Lists ListingCall replies without_state
listing_prints store old new a call room = record {
  on_image = λ s rest sound at. written_taken (listing s) old new a (call.on_image s rest sound at) room;
  elsewhere = λ empty. ap (λ (o : Outcome). take o.value new) (call.elsewhere empty);
}

-- ---- a load

loaded_prints : (module' : List ℕ) (sizes : Sizes) (entry : List ℕ) (lines : List (List ℕ)) (text : List ℕ) (l : Load) → load module' sizes ≡ l → ¬ IsImage entry
    → Prints (loading.after_load entry l).left lines text → text ≡ after_load l lines
unfolding loading.after_load after_load
loaded_prints module' sizes entry lines text (rules-load.refused number position) e empty p = p.elsewhere empty
loaded_prints module' sizes entry lines text (loads s) e empty p = p.on_image s (drop (needed s.sizes) entry) (consequences.sound.loaded module' sizes s e) refl

pub load_prints : (module' : List ℕ) (sizes : Sizes) (entry : List ℕ) (o : Outcome) (lines : List (List ℕ)) (text : List ℕ) → needed sizes ≤ length entry → ¬ IsImage entry
    → LoadCall module' sizes entry o → Prints o.left lines text → text ≡ after_load (load module' sizes) lines
unfolding LoadCall load after_load
load_prints module' sizes entry o lines text room empty call p = elim (true_or_false (good_sizes sizes)) [
  | inl good ↦
      let both : (good_sizes sizes && leb (needed sizes) (length entry)) ≡ true = and_of good (leb_of (needed sizes) (length entry) room) in
      let same : load_into module' sizes entry ≡ loading.after_load entry (load module' sizes) = into_load module' sizes entry both in
      loaded_prints module' sizes entry lines text (load module' sizes) refl empty (subst (λ (x : Outcome). Prints x.left lines text) (call ∙ same) p)
  | inr bad ↦
      let short : load_into module' sizes entry ≡ outcome bad_sizes 0 entry = into_short module' sizes entry (ap (λ (b : Bool). b && leb (needed sizes) (length entry)) bad) in
      let l : load module' sizes ≡ rules-load.refused bad_sizes 0 = rw (bad, load) refl in
      (subst (λ (x : Outcome). Prints x.left lines text) (call ∙ short) p).elsewhere empty ∙ ap (λ (x : Load). after_load x lines) (sym l)
]
