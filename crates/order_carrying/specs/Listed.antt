-- What the items of each list are, and its text (profile).
use Rattle.std.specs.Prelude.{◌≡◌, List, Option, Some, option_map}
use Rattle.oci_types.specs.Text.{Text}
use Rattle.registry_model.specs.World.{World, repo_at}
use Rattle.registry_orders.specs.declared.listing.Form.{Form}
use Rattle.registry_orders.specs.declared.listing.Listing.{Listing}
use Rattle.registry_orders.specs.declared.listing.Listing.TheVariants.{Repos, InRepo, Grants}
use Rattle.order_texts.specs.Items.{ItemShown}
use Rattle.order_texts.specs.Texts.{text_of}
use Rattle.order_carrying.specs.Lists.{repos_of, held_of}
use Rattle.order_carrying.specs.Grants.{AreGrantsOf}

-- the items; none of a repository that is not there
abbrev pub AreListed : World → Listing → Option (List ItemShown) → Type 0
AreListed w Repos items = items ≡ Some (repos_of w)
AreListed w (InRepo name what) items = items ≡ option_map (held_of what) (repo_at w name)
AreListed w (Grants name token shown) items = AreGrantsOf w name token shown items

-- the text is that of the items; there is none of a repository that is not there
abbrev pub IsListText : World → Listing → Form → Option Text → Type 0
IsListText w listing form text =
    (items : Option (List ItemShown)) × AreListed w listing items × (text ≡ option_map (text_of form) items)
