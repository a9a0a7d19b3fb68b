use Rattle.std.proofs.Common.{◌∙◌, refl, sym, ◌≡◌, Bool, true, false, Ok, OnOk}
use Rattle.std.specs.Prelude.{find, Option, ⊤}
use Rattle.sqlite.specs.State.{HasCleanDisk}
use Rattle.sqlite.specs.Held.{state}
use Rattle.registry_model.specs.Ask.{text_in}
use Rattle.registry_model.specs.Lookups.{put_manifest}
use Rattle.store_places.specs.Source as source
use Rattle.store_statements.specs.Keys.{has_key}
use Rattle.store_statements.specs.Held.{held, world_in}
use Rattle.store_statements.specs.declared.manifests.ManifestLink.{ManifestLink}
use Rattle.store_statements.specs.ManifestShown.{manifest_link}
use Rattle.store_statements.proofs.Alone.{less, less_err}
use Rattle.store_statements.proofs.CleanBefore.{was_clean}
use Rattle.store_statements.proofs.SettledAfter.{stays_then}
use Rattle.store_statements.proofs.Transactions.{survives_all}
use Rattle.store_writes.specs.Worlds.{AddsRows, KeepsRows, tagged, StandsFor}
use Rattle.store_writes.proofs.Transacted.{stands}
use Rattle.store_writes.proofs.ManifestPuts.{found_none, found_some, repo_there, fresh_still, made_there, made_new, manifest_comes, manifest_is_there, memory_unspent}
use Rattle.store_statements.proofs.Crashes.{back_from, crash_failed, crash_made}
use Rattle.registry_model.specs.Lookups as Lookups
use Rattle.store_statements.specs.World.{world_of}
use Rattle.store_statements.specs.Changes.{Grow}
use Rattle.oci_types.specs.Manifest.{shown, manifest_in}
use Rattle.registry_model.specs.World.{has_repo}
use Rattle.store_contents.specs.Layouts.{Layout}
use Rattle.store_statements.specs.Clauses.{WorldHas}
use Rattle.store_statements.specs.Held.{IsSettled}
use Rattle.store_statements.specs.PlaceChanges.{PutsContent, PutsPlaces}
use Rattle.store_writes.proofs.KnownEnds.{came_back, came_by, came_memory, came_so, came_told}
use Rattle.store_writes.proofs.ContentsStay.{from_read, grow_from}
use Rattle.store_writes.proofs.manifest_puts.put_manifest.Goals as goal

pub returns-in-Ok-Some : goal.returns-in-Ok-Some
returns-in-Ok-Some g c =
    let old = state g.S.Store c.args.conn.now in
    let mid = state g.S.Store c.find_manifest_link.new.conn in
    let new = state g.S.Store c.make.new.conn in
    let rows : (l : Layout) → source.Suits l c.args.source → manifest_in (source.text_in l c.args.source) ≡ Ok (shown c.args.manifest.now) → WorldHas g.S.Store l c.args.conn.now (λ w. has_repo w c.args.repo.now ≡ true) → HasCleanDisk new → IsSettled l old → OnOk c.make.result (KeepsRows (held l old) (held l new)) = λ l suits reads there clean is.
    let late : HasCleanDisk mid = was_clean c.make.ensures.survives clean in
    let stays = c.in-Ok-Some.ensures.settled l late is refl in
    less c.make.result (λ it. from_read old mid stays KeepsRows new it.1.3)
    (c.make.ensures.made l tt (λ clean. (stays.0.agree, rw c.as_str-repo.ensures.text (repo_there l old mid c.args.repo.now stays.1 (there (was_clean c.find_manifest_link.ensures.survives late))))) clean stays.0) in
    record {
      came = λ l clean is.
          let late : HasCleanDisk mid = was_clean c.make.ensures.survives clean in
          let some = found_some manifest_link c.in-Ok-Some.field-0-0 (find (has_key c.args.repo.now c.args.digest.now) (held l old).manifests) (sym c.in-Ok-Some.field-0-is ∙ (rw (c.as_str-repo.ensures.text, c.as_str-digest.ensures.text) at (c.in-Ok-Some.ensures.found l late is))) in
          came_told c.make.result false _ c.tell_came.result c.tell_came.ensures (manifest_is_there old c.args.repo.now c.args.digest.now is some);
      places = λ l suits reads there clean is. came_by (λ came. PutsPlaces c.args.source came (held l old) (held l new)) c.make.result false c.tell_came.result c.tell_came.ensures (λ it. it.0) (rows l suits reads there clean is);
      contents = λ l suits reads there clean is. came_by (λ came. PutsContent (source.text_in l c.args.source) came (held l old) (held l new)) c.make.result false c.tell_came.result c.tell_came.ensures (λ it. it.1) (rows l suits reads there clean is);
      made = λ l suits reads there clean is.
          let late : HasCleanDisk mid = was_clean c.make.ensures.survives clean in
          let stays = c.in-Ok-Some.ensures.settled l late is refl in
          let some = found_some manifest_link c.in-Ok-Some.field-0-0 (find (has_key c.args.repo.now c.args.digest.now) (held l old).manifests) (sym c.in-Ok-Some.field-0-is ∙ (rw (c.as_str-repo.ensures.text, c.as_str-digest.ensures.text) at (c.in-Ok-Some.ensures.found l late is))) in
          came_so c.make.result false c.tell_came.result c.tell_came.ensures
          (λ it. made_there old mid new c.args.repo.now c.args.digest.now (source.text_in l c.args.source) (text_in c.args.tag) stays.1 some (stands new (tagged (world_in l mid) c.args.repo.now (text_in c.args.tag) c.args.digest.now) it.0 (rw (c.as_str-repo.ensures.text, c.as_str-digest.ensures.text) at it.1.0)))
          (c.make.ensures.made l tt (λ clean. (stays.0.agree, rw c.as_str-repo.ensures.text (repo_there l old mid c.args.repo.now stays.1 (there (was_clean c.find_manifest_link.ensures.survives late))))) clean stays.0);
      memory = λ l suits reads there clean is memory.
          let late : HasCleanDisk mid = was_clean c.make.ensures.survives clean in
          let stays = c.in-Ok-Some.ensures.settled l late is refl in
          stays_then old mid new stays
          (c.make.ensures.memory l tt (λ clean. (stays.0.agree, rw c.as_str-repo.ensures.text (repo_there l old mid c.args.repo.now stays.1 (there (was_clean c.find_manifest_link.ensures.survives late))))) clean stays.0 (came_memory c.make.result false c.tell_came.result c.tell_came.ensures memory));
      back = λ l suits reads there clean is.
          let late : HasCleanDisk mid = was_clean c.make.ensures.survives clean in
          let stays = c.in-Ok-Some.ensures.settled l late is refl in
          came_back _ c.make.result false c.tell_came.result c.tell_came.ensures (less_err c.make.result (back_from old mid new is stays) (c.make.ensures.back l tt (λ clean. (stays.0.agree, rw c.as_str-repo.ensures.text (repo_there l old mid c.args.repo.now stays.1 (there (was_clean c.find_manifest_link.ensures.survives late))))) clean stays.0));
      crash = λ l suits reads there clean is.
          let late : HasCleanDisk mid = was_clean c.make.ensures.survives clean in
          let stays = c.in-Ok-Some.ensures.settled l late is refl in
          let some = found_some manifest_link c.in-Ok-Some.field-0-0 (find (has_key c.args.repo.now c.args.digest.now) (held l old).manifests) (sym c.in-Ok-Some.field-0-is ∙ (rw (c.as_str-repo.ensures.text, c.as_str-digest.ensures.text) at (c.in-Ok-Some.ensures.found l late is))) in
          crash_made g.S.Store c.args.conn.now c.make.new.conn (λ w. Lookups.put_manifest w c.args.repo.now c.args.digest.now (source.text_in l c.args.source) (text_in c.args.tag)) c.find_manifest_link.new.conn (λ t u. StandsFor u (tagged (world_of t) c.as_str-repo.result.now (text_in c.args.tag) c.as_str-digest.result.now) × (u.beside ≡ t.beside) × Grow t.contents u.contents × KeepsRows t u) is stays
          (λ s it. made_there old mid s c.args.repo.now c.args.digest.now (source.text_in l c.args.source) (text_in c.args.tag) stays.1 some (stands s (tagged (world_in l mid) c.args.repo.now (text_in c.args.tag) c.args.digest.now) it.0 (rw (c.as_str-repo.ensures.text, c.as_str-digest.ensures.text) at it.1.0))) c.make.result c.tell_came.result (λ X x. came_so c.make.result false c.tell_came.result c.tell_came.ensures (λ it. it) x)
          (c.make.ensures.crash l tt (λ clean. (stays.0.agree, rw c.as_str-repo.ensures.text (repo_there l old mid c.args.repo.now stays.1 (there (was_clean c.find_manifest_link.ensures.survives late))))) clean stays.0);
      grows = λ l suits reads there clean is.
          let late : HasCleanDisk mid = was_clean c.make.ensures.survives clean in
          let stays = c.in-Ok-Some.ensures.settled l late is refl in
          came_so c.make.result false c.tell_came.result c.tell_came.ensures (λ it. grow_from old mid stays new it.1.2)
          (c.make.ensures.made l tt (λ clean. (stays.0.agree, rw c.as_str-repo.ensures.text (repo_there l old mid c.args.repo.now stays.1 (there (was_clean c.find_manifest_link.ensures.survives late))))) clean stays.0);
      survives = survives_all old mid new (λ _. ⊤) (λ _. ⊤) c.find_manifest_link.ensures.survives c.make.ensures.survives;
    }

pub returns-in-Ok-None : goal.returns-in-Ok-None
returns-in-Ok-None g c =
    let old = state g.S.Store c.args.conn.now in
    let mid = state g.S.Store c.find_manifest_link.new.conn in
    let new = state g.S.Store c.make-in-Ok-None.new.conn in
    let rows : (l : Layout) → source.Suits l c.args.source → manifest_in (source.text_in l c.args.source) ≡ Ok (shown c.args.manifest.now) → WorldHas g.S.Store l c.args.conn.now (λ w. has_repo w c.args.repo.now ≡ true) → HasCleanDisk new → IsSettled l old → OnOk c.make-in-Ok-None.result (AddsRows (source.text_in l c.args.source) (source.runs_in c.args.source) (held l old) (held l new)) = λ l suits reads there clean is.
    let late : HasCleanDisk mid = was_clean c.make-in-Ok-None.ensures.survives clean in
    let stays = c.in-Ok-None.ensures.settled l late is refl in
    let none = found_none manifest_link (find (has_key c.as_str-repo.result.now c.as_str-digest.result.now) (held l old).manifests) (sym c.in-Ok-None.field-0-is ∙ c.in-Ok-None.ensures.found l late is) in
    less c.make-in-Ok-None.result (λ it. from_read old mid stays (AddsRows (source.text_in l c.args.source) (source.runs_in c.args.source)) new it.1.3)
    (c.make-in-Ok-None.ensures.made l (suits, reads) (λ clean. (stays.0.agree, rw c.as_str-repo.ensures.text (repo_there l old mid c.args.repo.now stays.1 (there (was_clean c.find_manifest_link.ensures.survives late))), fresh_still l old mid c.as_str-repo.result.now c.as_str-digest.result.now stays.1 none)) clean stays.0) in
    record {
      came = λ l clean is.
          let late : HasCleanDisk mid = was_clean c.make-in-Ok-None.ensures.survives clean in
          let none = found_none manifest_link (find (has_key c.as_str-repo.result.now c.as_str-digest.result.now) (held l old).manifests) (sym c.in-Ok-None.field-0-is ∙ c.in-Ok-None.ensures.found l late is) in
          came_told c.make-in-Ok-None.result true _ c.tell_came-in-Ok-None.result c.tell_came-in-Ok-None.ensures (manifest_comes old c.args.repo.now c.args.digest.now is (rw (c.as_str-repo.ensures.text, c.as_str-digest.ensures.text) at none));
      places = λ l suits reads there clean is. came_by (λ came. PutsPlaces c.args.source came (held l old) (held l new)) c.make-in-Ok-None.result true c.tell_came-in-Ok-None.result c.tell_came-in-Ok-None.ensures (λ it. it.0) (rows l suits reads there clean is);
      contents = λ l suits reads there clean is. came_by (λ came. PutsContent (source.text_in l c.args.source) came (held l old) (held l new)) c.make-in-Ok-None.result true c.tell_came-in-Ok-None.result c.tell_came-in-Ok-None.ensures (λ it. it.1) (rows l suits reads there clean is);
      made = λ l suits reads there clean is.
          let late : HasCleanDisk mid = was_clean c.make-in-Ok-None.ensures.survives clean in
          let stays = c.in-Ok-None.ensures.settled l late is refl in
          let none = found_none manifest_link (find (has_key c.as_str-repo.result.now c.as_str-digest.result.now) (held l old).manifests) (sym c.in-Ok-None.field-0-is ∙ c.in-Ok-None.ensures.found l late is) in
          came_so c.make-in-Ok-None.result true c.tell_came-in-Ok-None.result c.tell_came-in-Ok-None.ensures
          (λ it. made_new old mid new c.args.repo.now c.args.digest.now (source.text_in l c.args.source) (text_in c.args.tag) stays.1 (stands new (put_manifest (world_in l mid) c.args.repo.now c.args.digest.now (source.text_in l c.args.source) (text_in c.args.tag)) it.0 (rw (c.as_str-repo.ensures.text, c.as_str-digest.ensures.text) at it.1.0)))
          (c.make-in-Ok-None.ensures.made l (suits, reads) (λ clean. (stays.0.agree, rw c.as_str-repo.ensures.text (repo_there l old mid c.args.repo.now stays.1 (there (was_clean c.find_manifest_link.ensures.survives late))), fresh_still l old mid c.as_str-repo.result.now c.as_str-digest.result.now stays.1 none)) clean stays.0);
      memory = λ l suits reads there clean is memory.
          let late : HasCleanDisk mid = was_clean c.make-in-Ok-None.ensures.survives clean in
          let stays = c.in-Ok-None.ensures.settled l late is refl in
          let none = found_none manifest_link (find (has_key c.as_str-repo.result.now c.as_str-digest.result.now) (held l old).manifests) (sym c.in-Ok-None.field-0-is ∙ c.in-Ok-None.ensures.found l late is) in
          stays_then old mid new stays
          (c.make-in-Ok-None.ensures.memory l (suits, reads) (λ clean. (stays.0.agree, rw c.as_str-repo.ensures.text (repo_there l old mid c.args.repo.now stays.1 (there (was_clean c.find_manifest_link.ensures.survives late))), fresh_still l old mid c.as_str-repo.result.now c.as_str-digest.result.now stays.1 none)) clean stays.0 (came_memory c.make-in-Ok-None.result true c.tell_came-in-Ok-None.result c.tell_came-in-Ok-None.ensures memory));
      back = λ l suits reads there clean is.
          let late : HasCleanDisk mid = was_clean c.make-in-Ok-None.ensures.survives clean in
          let stays = c.in-Ok-None.ensures.settled l late is refl in
          let none = found_none manifest_link (find (has_key c.as_str-repo.result.now c.as_str-digest.result.now) (held l old).manifests) (sym c.in-Ok-None.field-0-is ∙ c.in-Ok-None.ensures.found l late is) in
          came_back _ c.make-in-Ok-None.result true c.tell_came-in-Ok-None.result c.tell_came-in-Ok-None.ensures (less_err c.make-in-Ok-None.result (back_from old mid new is stays) (c.make-in-Ok-None.ensures.back l (suits, reads) (λ clean. (stays.0.agree, rw c.as_str-repo.ensures.text (repo_there l old mid c.args.repo.now stays.1 (there (was_clean c.find_manifest_link.ensures.survives late))), fresh_still l old mid c.as_str-repo.result.now c.as_str-digest.result.now stays.1 none)) clean stays.0));
      crash = λ l suits reads there clean is.
          let late : HasCleanDisk mid = was_clean c.make-in-Ok-None.ensures.survives clean in
          let stays = c.in-Ok-None.ensures.settled l late is refl in
          let none = found_none manifest_link (find (has_key c.as_str-repo.result.now c.as_str-digest.result.now) (held l old).manifests) (sym c.in-Ok-None.field-0-is ∙ c.in-Ok-None.ensures.found l late is) in
          crash_made g.S.Store c.args.conn.now c.make-in-Ok-None.new.conn (λ w. Lookups.put_manifest w c.args.repo.now c.args.digest.now (source.text_in l c.args.source) (text_in c.args.tag)) c.find_manifest_link.new.conn (λ t u. StandsFor u (Lookups.put_manifest (world_of t) c.as_str-repo.result.now c.as_str-digest.result.now (source.text_in l c.args.source) (text_in c.args.tag)) × (u.beside ≡ t.beside) × Grow t.contents u.contents × AddsRows (source.text_in l c.args.source) (source.runs_in c.args.source) t u) is stays
          (λ s it. made_new old mid s c.args.repo.now c.args.digest.now (source.text_in l c.args.source) (text_in c.args.tag) stays.1 (stands s (put_manifest (world_in l mid) c.args.repo.now c.args.digest.now (source.text_in l c.args.source) (text_in c.args.tag)) it.0 (rw (c.as_str-repo.ensures.text, c.as_str-digest.ensures.text) at it.1.0))) c.make-in-Ok-None.result c.tell_came-in-Ok-None.result (λ X x. came_so c.make-in-Ok-None.result true c.tell_came-in-Ok-None.result c.tell_came-in-Ok-None.ensures (λ it. it) x)
          (c.make-in-Ok-None.ensures.crash l (suits, reads) (λ clean. (stays.0.agree, rw c.as_str-repo.ensures.text (repo_there l old mid c.args.repo.now stays.1 (there (was_clean c.find_manifest_link.ensures.survives late))), fresh_still l old mid c.as_str-repo.result.now c.as_str-digest.result.now stays.1 none)) clean stays.0);
      grows = λ l suits reads there clean is.
          let late : HasCleanDisk mid = was_clean c.make-in-Ok-None.ensures.survives clean in
          let stays = c.in-Ok-None.ensures.settled l late is refl in
          let none = found_none manifest_link (find (has_key c.as_str-repo.result.now c.as_str-digest.result.now) (held l old).manifests) (sym c.in-Ok-None.field-0-is ∙ c.in-Ok-None.ensures.found l late is) in
          came_so c.make-in-Ok-None.result true c.tell_came-in-Ok-None.result c.tell_came-in-Ok-None.ensures (λ it. grow_from old mid stays new it.1.2)
          (c.make-in-Ok-None.ensures.made l (suits, reads) (λ clean. (stays.0.agree, rw c.as_str-repo.ensures.text (repo_there l old mid c.args.repo.now stays.1 (there (was_clean c.find_manifest_link.ensures.survives late))), fresh_still l old mid c.as_str-repo.result.now c.as_str-digest.result.now stays.1 none)) clean stays.0);
      survives = survives_all old mid new (λ _. ⊤) (λ _. ⊤) c.find_manifest_link.ensures.survives c.make-in-Ok-None.ensures.survives;
    }

pub returns-in-Err : goal.returns-in-Err
returns-in-Err g c = record {
  made = λ l suits reads there clean is. tt;
  memory = λ l suits reads there clean is memory. c.in-Err.ensures.settled l clean is (memory_unspent Bool (Option ManifestLink) c.in-Err.fault _ refl memory);
  back = λ l suits reads there clean is. (c.find_manifest_link.ensures.kept l clean is).back;
  crash = λ l suits reads there clean is. crash_failed g.S.Store c.args.conn.now c.find_manifest_link.new.conn (λ w. Lookups.put_manifest w c.args.repo.now c.args.digest.now (source.text_in l c.args.source) (text_in c.args.tag)) is (c.find_manifest_link.ensures.kept l clean is);
  came = λ l clean is. tt;
  grows = λ l suits reads there clean is. tt;
  places = λ l suits reads there clean is. tt;
  contents = λ l suits reads there clean is. tt;
  survives = c.find_manifest_link.ensures.survives;
}

pub make-requires : goal.make-requires
make-requires g c = record { fits = tt }

pub make-requires-in-Ok-None : goal.make-requires-in-Ok-None
make-requires-in-Ok-None g c = record { fits = (c.requires.right, c.requires.fits, rw c.as_str-digest.ensures.text c.requires.matching) }
