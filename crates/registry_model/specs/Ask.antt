-- A request, as its writer sees it.
use Rattle.std.specs.Prelude.{Option, option_map}
use Rattle.std.specs.Borrow.{Bor}
use Rattle.oci_types.specs.Text.{Text}
use Rattle.registry_model.specs.declared.request.Verb.{Verb}
use Rattle.registry_model.specs.declared.request.Query.{Query}
use Rattle.registry_model.specs.declared.request.Resource.{Resource}
use Rattle.registry_model.specs.declared.settings.Settings.{Settings}
use Rattle.registry_model.specs.declared.request.Request.{Request}
use Rattle.registry_model.specs.Form.{Form, form_of}

-- the values of the query's keys, decoded
pub record Keys : Type 0 where
  pub digest : Option Text
  pub mount : Option Text
  pub «from» : Option Text
  pub n : Option Text
  pub last : Option Text
  pub artifact_type : Option Text

pub record Ask : Type 0 where
  pub settings : Settings
  pub resource : Resource
  -- the first value of `Host`, where it is UTF-8
  pub host : Option Text
  -- the credentials of the scheme `Basic`, as they stand
  pub basic : Option Text
  pub token : Option Text
  pub verb : Verb
  pub form : Form
  pub keys : Keys
  pub content_type : Option Text
  pub content_range : Option Text
  pub body : Text

abbrev pub text_in : Option (Bor Text) → Option Text
text_in o = option_map (λ t. t.now) o

abbrev pub keys_of : Query → Keys
keys_of q = record {
  digest = text_in q.digest;
  mount = text_in q.mount;
  «from» = text_in q.«from»;
  n = text_in q.n;
  last = text_in q.last;
  artifact_type = text_in q.artifact_type;
}

abbrev pub ask_of : Request → Ask
ask_of q = record {
  settings = q.settings;
  resource = q.resource;
  host = text_in q.host;
  basic = text_in q.basic;
  token = text_in q.token;
  verb = q.method;
  form = form_of q.route;
  keys = keys_of q.query;
  content_type = text_in q.content_type;
  content_range = text_in q.content_range;
  body = q.body.now;
}
