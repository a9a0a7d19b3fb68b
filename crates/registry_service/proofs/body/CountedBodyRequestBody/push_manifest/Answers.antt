use Rattle.registry_model.specs.Ask.{text_in}
use Rattle.registry_service.proofs.body.CountedBodyRequestBody.push_manifest.Goals as goal

pub returns-clause-comes : goal.returns-clause-comes
returns-clause-comes g c = λ honest t size.
    c.refuse_manifest.ensures.comes (g.K.Keeper.kept c.args._keeper.now) c.args._name.now (text_in c.args._content_type) t
    c.requires.unspent (c.requires.there honest) size
