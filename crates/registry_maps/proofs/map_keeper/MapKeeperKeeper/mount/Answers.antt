use Rattle.std.proofs.Common.{◌∙◌, sym, ap, subst, refl}
use Rattle.std.specs.Prelude.{is_some}
use Rattle.registry_model.specs.World.{repo_at, update_repo}
use Rattle.registry_model.specs.Lookups.{put_blob, with_mounted}
use Rattle.registry_model.specs.Keeping.{bytes_in, Writes}
use Rattle.registry_maps.specs.Maps.{world_of, kept_of, Makes}
use Rattle.registry_maps.proofs.SeenWorlds.{writes_memory, spends_memory}
use Rattle.registry_maps.proofs.map_keeper.MapKeeperKeeper.mount.Goals as goal

pub returns-in-Ok-Some : goal.returns-in-Ok-Some
returns-in-Ok-Some c = record {
  made = λ honest.
      let k = c.args.self.now in
      let w = world_of k.repos k.grants in
      let new = c.add_blob.new.self in
      let found = sym c.in-Ok-Some.ensures ∙ ap bytes_in c.in-Ok-Some.field-0-is in
      let made = subst (λ x. Makes c.add_blob.result (put_blob (world_of k.repos k.grants) c.args.to.now c.args.digest.now x) (world_of k.repos k.grants) (world_of new.repos new.grants)) c.deref.ensures.value c.add_blob.ensures in
      subst (λ o. Writes c.or_memory.result (update_repo (world_of k.repos k.grants) c.args.to.now (with_mounted c.args.digest.now o) (repo_at (world_of k.repos k.grants) c.args.to.now)) (kept_of k.repos k.grants) (kept_of new.repos new.grants)) (sym found)
      (writes_memory k.repos new.repos k.grants new.grants c.add_blob.result c.or_memory.result (put_blob w c.args.to.now c.args.digest.now c.in-Ok-Some.bytes.items) c.or_memory.ensures made);
  spends = spends_memory c.add_blob.result c.or_memory.result _ _ c.or_memory.ensures refl refl;
  honest = λ honest. honest;
}

pub returns-in-Ok-None : goal.returns-in-Ok-None
returns-in-Ok-None c = record {
  made = λ honest. let e = sym (c.requires.source tt refl) ∙ ap is_some (sym c.in-Ok-None.ensures ∙ ap bytes_in c.in-Ok-None.field-0-is) in absurd (cc);
  spends = (refl, refl);
  honest = λ honest. honest;
}
