use Rattle.std.proofs.Common.{ap, subst, sym}
use Rattle.registry_pack.specs.Extents.{bytes_at}
use Rattle.store_contents.specs.Layouts.{InTables, InPack}
use Rattle.store_places.specs.Source.{runs_in}
use Rattle.store_places.proofs.SourceLemmas.{of_bytes, of_extents}
use Rattle.store_statements.specs.Clauses.{KeepsInside}
use Rattle.store_statements.specs.StepsFrom.{KeepsContent}
use Rattle.store_statements.proofs.contents.keep_with.Goals as goal

pub returns-in-Bytes : goal.returns-in-Bytes
returns-in-Bytes g c =
    let old = c.args.tx.now.conn.now in
    let new = c.keep_hashed.new.tx.conn.now in
    record {
      content = of_bytes (λ k text. KeepsContent g.S.Store k old new c.keep_hashed.result text (runs_in c.args.source)) c.args.source c.in-Bytes.bytes c.in-Bytes.is
          (subst (KeepsContent g.S.Store InTables old new c.keep_hashed.result c.in-Bytes.bytes.now) (sym (ap runs_in c.in-Bytes.is)) c.keep_hashed.ensures.content);
      kept = of_bytes (λ k text. KeepsInside g.S.Store k old new) c.args.source c.in-Bytes.bytes c.in-Bytes.is c.keep_hashed.ensures.kept;
      same_reference = c.keep_hashed.ensures.same_reference;
      survives = c.keep_hashed.ensures.survives;
    }

pub returns-in-Extents : goal.returns-in-Extents
returns-in-Extents g c =
    let old = c.args.tx.now.conn.now in
    let new = c.keep_extents.new.tx.conn.now in
    record {
      content = of_extents (λ k text. KeepsContent g.S.Store k old new c.keep_extents.result text (runs_in c.args.source)) c.args.source c.in-Extents.extents c.in-Extents.hash c.in-Extents.is
          (λ file within is. subst (KeepsContent g.S.Store (InPack file) old new c.keep_extents.result (bytes_at file c.in-Extents.extents.now)) (sym (ap runs_in c.in-Extents.is)) (c.keep_extents.ensures.content file within is));
      kept = of_extents (λ k text. KeepsInside g.S.Store k old new) c.args.source c.in-Extents.extents c.in-Extents.hash c.in-Extents.is (λ file within is. c.keep_extents.ensures.kept file);
      same_reference = c.keep_extents.ensures.same_reference;
      survives = c.keep_extents.ensures.survives;
    }
