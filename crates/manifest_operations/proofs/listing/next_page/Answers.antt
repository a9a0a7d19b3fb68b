use Rattle.std.proofs.Common.{sym}
use Rattle.manifest_operations.proofs.ListingLemmas.{links_on}
use Rattle.manifest_operations.proofs.listing.next_page.Goals as goal

pub returns : goal.returns
returns c =
    links_on c.args.name.now c.args.n c.in-Some.n c.args.tags.now c.args.more c.in-Some-last.last.now _ c.if-not-more.false c.in-Some.is
    (sym c.in-Some-last.ensures.value) c.in_ok-page_link.ensures
