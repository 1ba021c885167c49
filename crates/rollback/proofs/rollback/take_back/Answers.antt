-- `rollback::rollback::take_back` meets its contract.
use Rattle.std.proofs.Common.{ℕ, List, sym, subst₂}
use Rattle.cuts.specs.declared.link.Link.{Link}
use Rattle.cuts.specs.Links.{Links}
use Rattle.reading.specs.Reads.{OfState}
use Rattle.links.proofs.LinkWhole.{links_whole}
use Rattle.rollback.proofs.rollback.take_back.Goals as goal

pub event_back-requires : goal.event_back-requires
event_back-requires c =
    let p = c.requires in
    let store = c.args.store.now in
    let linked = links_whole store _ _ _ c.new-links.ensures c.collect.ensures c.collect-2.ensures in
    (p.0, subst₂ (λ (links : List Link) (few : ℕ). OfState store (λ s. Links s links few)) (sym c.as_slice.ensures.value) (sym c.len-few.ensures.value) linked, c.levels-level.ensures, p.1)
