-- The cut by links: each lowering takes only what depends on the event, and where no link is torn the cut is the event's.
use Prim.Native.Nat.{ℕ, zero, suc, ◌≤◌, ◌<◌}
use mathlib.Core.Path.{◌≡◌, refl, sym, subst}
use mathlib.Core.Option.{some}
use mathlib.Core.List.{List}
use native.Mathlib.Decide.{dec_lt}
use native.Mathlib.Omega.{arith}
use lib.ListN.{length}
use Rattle.rules.specs.State.{Message, taking, as_rec, as_spawn, Entry, State}
use Rattle.rules.specs.Sound.{Sound}
use Rattle.rules.specs.Depends.{Series, entries_of, deliveries_to, level}
use Rattle.rules.specs.Standing.{Stands, seen}
use Rattle.rules.specs.Rollback.{Cut, cut_to}
use Rattle.demands.proofs.CutNumbers.{Good}
use Rattle.demands.proofs.Removal.{in_level}
use Rattle.demands.proofs.CutLoop.{Loop, loop_start, lower_rec, lower_since, lower_send, lower_child, lower_child_mail, loop_done}
use Rattle.cuts.specs.Bounds.{line_count}
use Rattle.cuts.specs.declared.link.Link.{Link}
use Rattle.cuts.specs.Links.{cut_in, from_line, from_index, Ties, of_rec, of_since, of_send, of_child, of_mail, LinkAt, Tied, Room}
use Rattle.cuts.specs.Going.{Tears, lower_to, Lowers, stay, down, Settled, Settles}
use Rattle.cuts.proofs.Lines.{at_line, cut_set}
use Rattle.cuts.proofs.LowerLaws.{lowers_long}

-- ---- a link that a cut tears, by lines
module _ {links : List Link} {cut : List ℕ} {k a b : ℕ} {x y : Series} (at : LinkAt links k x a y b) where
  pub tears_stays : Tears links cut k → a < cut_in cut x
  tears_stays t = omega (arith, t.stays, at.from_index_lem, at_line cut x at.from_line_lem)

  pub tears_goes : Tears links cut k → cut_in cut y ≤ b
  tears_goes t = omega (arith, t.goes, at.on_index_lem, at_line cut y at.on_line_lem)

  pub tears_of : a < cut_in cut x → cut_in cut y ≤ b → Tears links cut k
  tears_of h g = record { stays = omega (arith, h, at.from_index_lem, at_line cut x at.from_line_lem); goes = omega (arith, g, at.on_index_lem, at_line cut y at.on_line_lem) }

module _ {s : State} (sound : Sound s) (x : Series) (i : ℕ) (happens : i < level s x) where
  tie_lower : {k : Cut} {y z : Series} {a b : ℕ} → Ties s y a z b → Loop sound x i happens k → a < k y → k z ≤ b → Loop sound x i happens (cut_to y a k)
  tie_lower (of_rec st is e) l h g = (lower_rec sound x i happens l st is h (omega (arith, e, g))).0
  tie_lower (of_since st is) l h g = (lower_since sound x i happens l st is g h).0
  tie_lower (of_send r st is c) l h g = (lower_send sound x i happens l r st is c g h).0
  tie_lower (of_child st is) l h g = (lower_child sound x i happens l st is g h).0
  tie_lower (of_mail st is) l h g = (lower_child_mail sound x i happens l st is g h).0

  pub link_lower : {links : List Link} {cut : List ℕ} {few k : ℕ} → Tied s links few → k < few → Tears links cut k → from_line links k < length cut → Loop sound x i happens (cut_in cut)
      → Loop sound x i happens (cut_in (lower_to links k cut))
  unfolding lower_to
  link_lower {links} {cut} {few} {k} tied h t low l =
      let says = tied.each k h in
      let at = says.is in
      subst (Loop sound x i happens) (sym (cut_set cut says.from (from_index links k) at.from_line_lem low))
      (subst (λ n. Loop sound x i happens (cut_to says.from n (cut_in cut))) (sym at.from_index_lem) (tie_lower says.holds l (tears_stays at t) (tears_goes at t)))

-- ---- where no link is torn
module _ {s : State} {links : List Link} {cut : List ℕ} {few : ℕ} (tied : Tied s links few) (whole : (k : ℕ) → k < few → ¬ Tears links cut k) where
  kept : {y z : Series} {a b : ℕ} → Ties s y a z b → a < cut_in cut y → b < cut_in cut z
  kept {y} {z} {a} {b} t h = elim (dec_lt b (cut_in cut z)) [
    | yes g ↦ g
    | no g ↦ absurd (let linked = tied.all y a z b t in whole linked.place linked.below (tears_of linked.is h (omega (arith, g))))
  ]

  all_good : Good s (cut_in cut)
  all_good = record {
    saw_all = λ {p} {i} {e} {g} {a} {d} {m} st is h. saw (seen a m d g) refl st is h;
    saw_none = λ {p} {i} {e} {g} {a} {d} {m} st is h. elim (dec_lt (seen a m d g) (cut_in cut (deliveries_to p))) [ yes z ↦ absurd (let u = kept (of_since st is) z in omega arith) | no z ↦ omega arith ];
    mailed = λ r st is c h. kept (of_send r st is c) h;
    born = λ st is h. (born_0 st is h, born_1 st is h);
  }
    where
      saw : {p i : ℕ} {e : Entry} {g : List Entry} {a d : List Message} {m : Message} (n : ℕ) → seen a m d g ≡ n → Stands s p i e g → as_rec e.kind ≡ some (taking a m d) → i < cut_in cut (entries_of p)
          → seen a m d g ≤ cut_in cut (deliveries_to p)
      saw zero e st is h = omega (arith, e)
      saw (suc n) e st is h = let u = kept (of_rec st is e) h in omega (arith, e, u)

      born_0 : {p q i : ℕ} {e : Entry} {g : List Entry} → Stands s p i e g → as_spawn e.kind ≡ some q → cut_in cut (entries_of p) ≤ i → cut_in cut (entries_of q) ≡ 0
      born_0 {q = q} st is h = elim (dec_lt 0 (cut_in cut (entries_of q))) [ yes z ↦ absurd (let u = kept (of_child st is) z in omega arith) | no z ↦ omega arith ]

      born_1 : {p q i : ℕ} {e : Entry} {g : List Entry} → Stands s p i e g → as_spawn e.kind ≡ some q → cut_in cut (entries_of p) ≤ i → cut_in cut (deliveries_to q) ≡ 0
      born_1 {q = q} st is h = elim (dec_lt 0 (cut_in cut (deliveries_to q))) [ yes z ↦ absurd (let u = kept (of_mail st is) z in omega arith) | no z ↦ omega arith ]

  pub good_cut : Good s (cut_in cut)
  good_cut = all_good

-- ---- a cut that was lowered until no link is torn
module _ {links : List Link} {from : List ℕ} (room : Room links) (long : length from ≡ line_count) {s : State} (x : Series) (i : ℕ) (sound : Sound s) (tied : Tied s links (length links)) (happens : i < level s x) (at : cut_in from ≡ cut_to x i (level s)) where
  lowers_loop : {to : List ℕ} → Lowers links from to → Loop sound x i happens (cut_in to)
  lowers_loop stay = subst (Loop sound x i happens) (sym at) (loop_start sound x i happens)
  lowers_loop (down {cut} {k} l h t) = link_lower sound x i happens tied h t (omega (arith, (room.each k h).from_line_lem, lowers_long l, long)) (lowers_loop l)

pub settled_settles : (links : List Link) (from to : List ℕ) → Room links → length from ≡ line_count → Settled links from to → Settles links from to
unfolding Settles
settled_settles links from to room long settled s x i sound tied happens e =
    let low = in_level s x happens in
    loop_done sound x i low (lowers_loop room long x i sound tied low e settled.lowers) (good_cut tied settled.whole)
