use Rattle.percent_encoding.specs.Percent.{percent_decode}
use Rattle.registry_http.specs.Asking.{path_in}
use Rattle.registry_http.proofs.TextPlaces.{text_valid, text_invalid}
use Rattle.registry_http.proofs.target.decode_path.Goals as goal

pub returns-in-Ok : goal.returns-in-Ok
returns-in-Ok c =
    let text = rw (c.percent_decode.ensures.bytes, c.split_target.ensures.path) at c.in-Ok.ensures.value in
    let valid = rw (c.percent_decode.ensures.bytes, c.split_target.ensures.path) at c.in-Ok.ensures.ok_only_if_utf8 in
    rw text (text_valid (percent_decode (path_in c.args.target.now)) valid)

pub returns-in-Err-Utf8 : goal.returns-in-Err-Utf8
returns-in-Err-Utf8 c =
    let fails = rw (c.in-Err-Utf8.field-0-is, c.percent_decode.ensures.bytes, c.split_target.ensures.path) at c.in-Err-Utf8.ensures.utf8 in
    text_invalid (percent_decode (path_in c.args.target.now)) (λ valid. let e = fails valid in cc)
