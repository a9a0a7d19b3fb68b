-- The forms of a request's path (OCI Distribution Specification 1.1, Endpoints).
use Rattle.std.specs.Prelude.{ℕ, ◌==◌, ◌&&◌, ◌||◌, Bool, [], drop, codes, bytes_eq, nat_eq, if◌then◌else◌}
use Rattle.std.specs.List.{before_last, after_last, starts_with}
use Rattle.oci_types.specs.Text.{Text}
use Rattle.registry_model.specs.declared.route.Route.{Route}
use Rattle.registry_model.specs.declared.route.Route.TheVariants as route

-- a path's form, with the texts of its name and of its digest, reference or session number
pub data Form : Type 0 where
  no_form base : Form
  blob : Text → Text → Form
  uploads : Text → Form
  session : Text → Text → Form
  manifest : Text → Text → Form
  tags : Text → Form
  referrers : Text → Text → Form

abbrev pub form_of : Route → Form
form_of route.NoForm = no_form
form_of route.Base = base
form_of (route.Blob name digest) = blob name.now digest.now
form_of (route.Uploads name) = uploads name.now
form_of (route.Session name reference) = session name.now reference.now
form_of (route.Manifest name reference) = manifest name.now reference.now
form_of (route.Tags name) = tags name.now
form_of (route.Referrers name digest) = referrers name.now digest.now

-- ---- from a path

abbrev pub is_slash : ℕ → Bool
is_slash b = b == 47

-- the last segment of a path that begins with a slash
abbrev pub last_segment : Text → Text
last_segment path = after_last is_slash path

-- what stands before the slash of the last segment
abbrev pub path_before : Text → Text
path_before path = before_last is_slash path

-- the name that the first segments make, without the slash before it; it may be empty
abbrev pub name_in : Text → Text
name_in path = if starts_with nat_eq path (codes "/") then drop 1 path else path

-- the last three segments of a path, counted from its end, and what stands before the second and the third
pub record Segments : Type 0 where
  pub third : Text
  pub second : Text
  pub last : Text
  pub before_third : Text
  pub before_second : Text

-- the forms of blobs and of their uploads
abbrev pub blob_form_by : Segments → Form
blob_form_by s =
    if bytes_eq s.third (codes "blobs") && bytes_eq s.second (codes "uploads")
    then (if bytes_eq s.last [] then uploads (name_in s.before_third)
    else session (name_in s.before_third) s.last)
    else (if bytes_eq s.second (codes "blobs") && bytes_eq s.last (codes "uploads")
    then uploads (name_in s.before_second)
    else (if bytes_eq s.second (codes "blobs") then blob (name_in s.before_second) s.last
    else no_form))

-- by the last three segments of what follows "/v2"; the first line that fits decides
abbrev pub form_by : Segments → Form
form_by s =
    if bytes_eq s.second (codes "tags") && bytes_eq s.last (codes "list") then tags (name_in s.before_second)
    else (if bytes_eq s.second (codes "manifests") then manifest (name_in s.before_second) s.last
    else (if bytes_eq s.second (codes "referrers") then referrers (name_in s.before_second) s.last
    else blob_form_by s))

abbrev pub segments_of : Text → Segments
segments_of path =
    let front = path_before path in
    let front' = path_before front in
    record {
      third = last_segment front';
      second = last_segment front;
      last = last_segment path;
      before_third = path_before front';
      before_second = front';
    }

abbrev pub form_behind : Text → Form
form_behind path = form_by (segments_of path)

-- "/v2" and "/v2/" are the base
abbrev pub form_in_version : Text → Form
form_in_version path =
    if bytes_eq path [] || bytes_eq path (codes "/") then base
    else (if starts_with nat_eq path (codes "/") then form_behind path else no_form)

abbrev pub form_at : Text → Form
form_at path = if starts_with nat_eq path (codes "/v2") then form_in_version (drop 3 path) else no_form
