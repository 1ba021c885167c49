-- A message that was sent: its name, its value, and the entry that sent it.
use Rattle.std.proofs.Common.{Option, None, Some}
use Prim.Native.Nat.{ℕ, ◌≤◌, ◌<◌}
use mathlib.Core.Path.{◌≡◌, refl, sym, ◌∙◌, ap, subst, subst₂}
use mathlib.Core.Bool.{Bool, true, false}
use mathlib.Core.Option.{Option as Maybe, none, some}
use mathlib.Core.List.{List, ◌++◌}
use native.Mathlib.Omega.{arith}
use lib.Dec.{eqb}
use lib.ListN.{length, length-append, length-drop}
use Rattle.lists.proofs.Tests.{none_not_some, some_injective}
use Rattle.term.specs.Words.{tag_pid, tag_call, tag_apply, tag_case, tag_let, tag_receive, tag_spawn, tag_send, tag_self, tag_check}
use Rattle.term.specs.Tree.{Term, Terms, int, node, end, ◌then◌, words, words_of}
use Rattle.term.specs.Read.{term_of, terms_of}
use Rattle.term.specs.Module.{function_of}
use Rattle.machine.specs.Operator.{operate_on}
use Rattle.machine.specs.Place.{working}
use Rattle.machine.specs.Work.{Work, finished, stuck, to_seq, to_send, to_receive, to_spawn, to_self, to_check, next, seq_or, body_with, case_gives, let_gives, send_to, send_work, work_at, work}
use Rattle.copying.specs.Places.{place_of}
use Rattle.step.specs.Controls.{ControlIs}
use Rattle.step.specs.Steps.{Next}
use Rattle.step.specs.Becomes.{ValueIs}
use Rattle.step.specs.Becomes
use Rattle.step.proofs.RowSplit.{working_stands}
use Rattle.step.proofs.RowWork.{work_reads, work_not}
use Rattle.rules.specs.State.{Message, letter, State, history_at}
use Rattle.rules.specs.Flight.{sent}
use Rattle.rules.specs.Sound.{SentTo, Sound}
use Rattle.demands.proofs.Histories.{sent_suffix, suffix_entry}
use Rattle.store.specs.Layout.{most_entries, most_words, name_base, name_word}
use Rattle.store.specs.Image.{IsImage}
use Rattle.store.proofs.SoundStates.{numbered}
use Rattle.reading.specs.Reads.{OfState, control_at, IsPlace, OfSend, IsSend, SendFound, Lives}
use Rattle.reading.proofs.Holding.{at_image}
use Rattle.reading.proofs.Naming.{sender_of, count_of, name_sender, name_count}
use Rattle.reading.proofs.MailReads.{found_at}
use Rattle.making.specs.Making.{about, IsSent, ValueSent, TakenRow}
use Rattle.step.proofs.Ready.{control_ready, sent_ready}
use Rattle.making.proofs.Living.{sizes_of, ready}
use Rattle.making.proofs.Becoming.{either, no_value}

-- ---- a value that is sent is no longer than the control that sends it

unfoldable ShortSend : ℕ → Work → Type 0
ShortSend most finished = Unit {0}
ShortSend most stuck = Unit {0}
ShortSend most (to_seq row) = Unit {0}
ShortSend most (to_send target value row) = length value ≤ most
ShortSend most (to_receive takes) = Unit {0}
ShortSend most (to_spawn child rows) = Unit {0}
ShortSend most (to_self rows) = Unit {0}
ShortSend most (to_check number row) = Unit {0}

short_seq : (most : ℕ) (whole : Term) (o : Maybe Term) → ShortSend most (seq_or whole o)
unfolding seq_or ShortSend
short_seq most whole none = tt
short_seq most whole (some t) = tt

short_send_to : (most : ℕ) (whole target v : Term) → length (words v) ≤ most → ShortSend most (send_to whole target v)
unfolding send_to ShortSend
short_send_to most whole (int x) v h = tt
short_send_to most whole (node tag n k ts) v h = go (eqb tag tag_pid)
  where
    go : (b : Bool) → ShortSend most (elim b [ true ↦ to_send k (words v) (next whole v) | false ↦ stuck ])
    go true = h
    go false = tt

short_send : (most : ℕ) (whole : Term) (ts : Terms) → length (words_of ts) ≤ most → ShortSend most (send_work whole ts)
unfolding send_work ShortSend words_of
short_send most whole end h = tt
short_send most whole (t then end) h = tt
short_send most whole (t then (v then ts)) h =
    short_send_to most whole t v (omega (arith, h, length-append (words t) (words v ++ words_of ts), length-append (words v) (words_of ts)))

short_at : (functions : Terms) (whole w : Term) → ShortSend (length (words w)) (work_at functions whole w)
unfolding work_at ShortSend words
short_at functions whole (int x) = tt
short_at functions whole (node tag n k ts) =
    let P : Work → Type 0 = ShortSend (length (words (node tag n k ts))) in
    either P (eqb tag tag_call) _ _ (short_seq _ whole (operate_on k ts))
    (either P (eqb tag tag_apply) _ _ (short_seq _ whole (body_with ts (function_of functions k)))
    (either P (eqb tag tag_case) _ _ (short_seq _ whole (case_gives ts))
    (either P (eqb tag tag_let) _ _ (short_seq _ whole (let_gives k ts))
    (either P (eqb tag tag_receive) _ _ tt
    (either P (eqb tag tag_spawn) _ _ tt
    (either P (eqb tag tag_send) _ _ (short_send _ whole ts (omega arith))
    (either P (eqb tag tag_self) _ _ tt
    (either P (eqb tag tag_check) _ _ tt tt))))))))

sent_short : (module' c : List ℕ) (target : ℕ) (value row : List ℕ) → ControlIs (terms_of module') c (term_of c) → work module' c ≡ to_send target value row → length value ≤ length c
unfolding ShortSend
sent_short module' c target value row i e =
    let d : ¬ (to_send target value row ≡ finished) = λ x. (let z : ◌≡◌ {A = ℕ} 0 1 = cc in absurd (omega arith)) in
    let at = sym (work_not (terms_of module') (term_of c) (no_value module' c e d)) ∙ sym (work_reads module' c (term_of c) refl) ∙ e in
    let short : length value ≤ length (words (working (term_of c))) = subst (ShortSend (length (words (working (term_of c))))) at (short_at (terms_of module') (term_of c) (working (term_of c))) in
    let stands = working_stands (term_of c) c i.same_words i.plain in
    omega (arith, short, ap length stands.here, length-append (words (working (term_of c))) stands.rest, length-drop (place_of (term_of c) 0) c)

-- ---- a message that was sent

pub record Said (s : State) (p : ℕ) (m : Message) : Type 0 where
  pub sender_below : m.sender < s.sizes.places
  pub count_small : m.count < most_entries
  pub value_is : ValueIs m.value (term_of m.value)
  pub value_short : length m.value ≤ most_words

pub said : (s : State) (p : ℕ) (m : Message) → Sound s → SentTo s p m → Said s p m
unfolding SentTo
said s p m sound e =
    let n = numbered s sound p m e in
    let sizes = sizes_of s sound in
    let r = sent_suffix (history_at s m.sender) m.count e in
    let at = suffix_entry r.stands in
    let control = sound.controls_before m.sender (length r.before) r.entry at in
    let about-to = sound.sends_said m.sender (length r.before) p m.value r.entry at r.sends_it in
    let few : s.sizes.places ≤ 65536 = omega (arith, sizes.places_high) in
    let i = control_ready s.module' r.entry.before s.sizes.places sound.module_passes few control.good in
    let short = sent_short s.module' r.entry.before p m.value about-to.next i about-to.sends in
    record {
      sender_below = n.sender_below;
      count_small = omega (arith, n.count_below, sizes.entries_high);
      value_is = sent_ready s.module' r.entry.before s.sizes.places p m.value about-to.next sound.module_passes few control.good about-to.sends;
      value_short = omega (arith, short, control.fits, sizes.words_high);
    }

same_value : {a b : ℕ} {v w : List ℕ} → letter a v ≡ letter b w → v ≡ w
same_value e = cc

module _ (l : List ℕ) (p name : ℕ) (is-sent : OfState l (IsSent p name)) where
  -- where the message of that name stands among the sends of its sender
  sent_there : (s : State) (m : Message) → Sound s → SentTo s p m → name_word m ≡ name → sent (history_at s (sender_of name)) (count_of name) ≡ some (letter p m.value)
  unfolding SentTo
  sent_there s m sound e named =
      let x = said s p m sound e in
      let small : m.count < name_base = omega (arith, x.count_small) in
      ap (λ (j : ℕ). sent (history_at s j) (count_of name)) (ap sender_of (sym named) ∙ name_sender m.sender m.count small)
      ∙ ap (sent (history_at s m.sender)) (ap count_of (sym named) ∙ name_count m.sender m.count small) ∙ e

  pub sender_place : OfState l (IsPlace (sender_of name))
  unfolding OfState
  sender_place s rest h =
      let x = is-sent s rest h in
      let y = said s p x.message h.sound x.said in
      let small : x.message.count < name_base = omega (arith, y.count_small) in
      omega (arith, ap sender_of (sym x.named) ∙ name_sender x.message.sender x.message.count small, y.sender_below)

  module _ (f : Option ℕ) (found : OfState l (λ s. SendFound (history_at s (sender_of name)) (count_of name) f)) where
    pub content_nowhere : (v : List ℕ) → f ≡ None → OfState l (ValueSent p name v)
    unfolding OfState ValueSent SendFound
    content_nowhere v e s rest h m to named =
        none_not_some (sym (subst (SendFound (history_at s (sender_of name)) (count_of name)) e (found s rest h)) ∙ sent_there s m h.sound to named)

    pub content_send : (i : ℕ) → f ≡ Some i → OfState l (IsSend (sender_of name) i)
    unfolding OfState
    content_send i e s rest h =
        let x = found_at s (sender_of name) (count_of name) i (subst (SendFound (history_at s (sender_of name)) (count_of name)) e (found s rest h)) in
        record { entry = x.entry; target = x.target; value = x.value; stands = x.stands; is_send = x.is_send }

    pub content_found : (i : ℕ) (v : List ℕ) → f ≡ Some i → OfState l (OfSend (sender_of name) i (λ target value. v ≡ value)) → OfState l (ValueSent p name v)
    unfolding OfState OfSend ValueSent
    content_found i v e is s rest h m to named =
        let x = found_at s (sender_of name) (count_of name) i (subst (SendFound (history_at s (sender_of name)) (count_of name)) e (found s rest h)) in
        let one : v ≡ x.value = is s rest h x.entry x.target x.value x.stands x.is_send in
        one ∙ same_value (some_injective (sym x.is_kth ∙ sent_there s m h.sound to named))

-- ---- what a receive makes of it

module _ (l c v : List ℕ) (p name : ℕ) (is-sent : OfState l (IsSent p name)) (content : OfState l (ValueSent p name v)) where
  pub content_short : IsImage l → length v < 4294967295
  unfolding ValueSent
  content_short i =
      let x = at_image (IsSent p name) i is-sent in
      let same : v ≡ x.message.value = at_image (ValueSent p name v) i content x.message x.said x.named in
      let y = said i.state p x.message i.sound x.said in
      omega (arith, ap length same, y.value_short)

  pub taken_row_is : (old new : List ℕ) (r : Next) → OfState l (Lives p) → OfState l (λ s. c ≡ control_at s p) → Becomes.Receives c v old new r → OfState l (TakenRow p name old new r)
  unfolding OfState ValueSent TakenRow about Becomes.Receives
  taken_row_is old new r lives is f s rest h takes m a to named =
      let same : v ≡ m.value = content s rest h m to named in
      let g = subst₂ (λ (x y : List ℕ). Becomes.Receives x y old new r) (is s rest h) same f in
      g s.module' (term_of (control_at s p)) (term_of m.value) takes (ready s h.sound p (lives s rest h)) (said s p m h.sound to).value_is a
