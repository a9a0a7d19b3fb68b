use Rattle.std.proofs.Common.{◌≡◌, is_some, true}
use Rattle.std.specs.Prelude.{IfSome}
use Rattle.sha2.specs.Sha256.{sha256}
use Rattle.registry_model.specs.Lookups.{append, session_at}
use Rattle.store_contents.specs.Layouts.{Layout}
use Rattle.store_places.specs.Source.{Suits, text_in}
use Rattle.store_statements.specs.Clauses.{WorldHas}
use Rattle.store_reads.proofs.Foretold.{append_foretold}
use Rattle.registry_store.proofs.Followed.{longer_known}
use Rattle.registry_store.proofs.SourceWrites.{leaves_bytes, of_bytes, of_source}
use Rattle.registry_store.proofs.counted_sessions.append.Goals as goal

pub returns : goal.returns
returns g c =
    let turns = λ (l : Layout) (suits : Suits l c.args.source) (same : text_in l c.args.source ≡ c.args.bytes.now) (is_open : WorldHas g.S.Store l c.args.conn.now (λ w. is_some (session_at w c.args.repo.now c.args.number) ≡ true)).
    of_bytes g.S.Store l c.args.conn.now c.append-made.new.conn c.append-made.result (λ bytes w. append w c.args.repo.now c.args.number bytes) (text_in l c.args.source) c.args.bytes.now same (c.append-made.ensures.made l suits is_open) in
    record {
      made = turns;
      places = c.append-made.ensures.places;
      memory = c.append-made.ensures.memory;
      crash = λ l suits same is_open.
          leaves_bytes g.S.Store l c.args.conn.now c.append-made.new.conn c.append-made.result (λ bytes w. append w c.args.repo.now c.args.number bytes) (text_in l c.args.source) c.args.bytes.now same (c.append-made.ensures.crash l suits is_open);
      survives = c.append-made.ensures.survives;
      known = λ l suits same known is_open.
          longer_known g.S.Store l c.args.conn.now c.append-made.new.conn c.args.known.now c.follow_made.new.known c.args.repo.now c.args.number c.args.bytes.now _ c.append-made.result
          c.append-made.ensures.survives (λ w there. append_foretold w c.args.repo.now c.args.number c.args.bytes.now there) is_open c.follow_made.ensures.followed c.follow_made.ensures.kept (turns l suits same) (c.append-made.ensures.memory l suits) known;
    }

pub append-made-requires : goal.append-made-requires
append-made-requires g c = record {
  fits = c.requires.kept.right;
  hashed = of_source (λ bytes. IfSome c.args.hash (λ h. h ≡ sha256 bytes)) c.args.source c.args.bytes.now c.requires.kept c.requires.hashed;
}
