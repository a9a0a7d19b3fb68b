use Rattle.std.proofs.Common.{◌∙◌, sym, ap, refl, rules}
use Rattle.std.specs.Prelude.{is_some}
use Rattle.registry_model.specs.Sessions.{opened}
use Rattle.registry_maps.proofs.SeenWorlds.{lent_some, lent_none, repo_lent, repo_unlent, number_made, spends_memory}
use Rattle.registry_maps.proofs.map_keeper.MapKeeperKeeper.open_session.Goals as goal

pub open_session-requires : goal.open_session-requires
open_session-requires c =
    let k = c.args.self.now in
    let there = lent_some k.repos c.args.repo.now c.get_mut.result c.in-Some.repository c.in-Some.is c.get_mut.ensures.value in
    rw (repo_lent k.repos k.grants c.args.repo.now c.in-Some.repository.now there) at (c.requires.below tt refl)

pub returns-in-Some : goal.returns-in-Some
returns-in-Some c = record {
  made = λ honest.
      let k = c.args.self.now in
      let new = c.open_session.new.self in
      let there = lent_some k.repos c.args.repo.now c.get_mut.result c.in-Some.repository c.in-Some.is c.get_mut.ensures.value in
      let updates = (c.get_mut.follows.holds new).3 (search rules) in
      number_made k.repos (c.get_mut.follows.lender new) k.grants c.args.repo.now c.in-Some.repository.now new there updates
      c.open_session.result c.or_memory.result _ opened c.or_memory.ensures
      (rw (repo_lent k.repos k.grants c.args.repo.now c.in-Some.repository.now there) c.open_session.ensures.number) c.open_session.ensures.made;
  spends = spends_memory c.open_session.result c.or_memory.result _ _ c.or_memory.ensures refl refl;
  honest = λ honest. honest;
}

pub returns-in-None : goal.returns-in-None
returns-in-None c = record {
  made = λ honest.
      let k = c.args.self.now in
      let none = lent_none k.repos c.args.repo.now c.get_mut.result c.in-None.is c.get_mut.ensures.value in
      let e = sym (ap is_some (repo_unlent k.repos k.grants c.args.repo.now none)) ∙ c.requires.there tt refl in
      absurd (cc);
  spends = (refl, refl);
  honest = λ honest. honest;
}
