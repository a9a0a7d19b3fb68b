-- Texts that are the same each time.
use Rattle.std.proofs.Common.{◌≡◌, Bool, true, false, [], ◌++◌, refl, arith}
use Rattle.std.specs.Prelude.{codes, decimal}
use Rattle.std.proofs.lemmas.Fmt.{decimal_digit}
use Rattle.oci_types.specs.Text.{Text}
use Rattle.registry_model.specs.Answer.{busy_answer, failed_answer}
use Rattle.registry_http.specs.ReplyText.{crlf, status_line, field, close_field, reply_text}

pub refusal_400 : codes "HTTP/1.1 400 Bad Request\r\nContent-Length: 0\r\nConnection: close\r\n\r\n" ≡ status_line 400 ++ codes "Content-Length: 0\r\nConnection: close\r\n\r\n"
unfolding status_line
refusal_400 = refl

pub refusal_413 : codes "HTTP/1.1 413 Payload Too Large\r\nContent-Length: 0\r\nConnection: close\r\n\r\n" ≡ status_line 413 ++ codes "Content-Length: 0\r\nConnection: close\r\n\r\n"
unfolding status_line
refusal_413 = refl

pub refusal_501 : codes "HTTP/1.1 501 Not Implemented\r\nContent-Length: 0\r\nConnection: close\r\n\r\n" ≡ status_line 501 ++ codes "Content-Length: 0\r\nConnection: close\r\n\r\n"
unfolding status_line
refusal_501 = refl

pub refusal_503 : codes "HTTP/1.1 503 Service Unavailable\r\nContent-Length: 0\r\nConnection: close\r\n\r\n" ≡ status_line 503 ++ codes "Content-Length: 0\r\nConnection: close\r\n\r\n"
unfolding status_line
refusal_503 = refl

-- ---- replies that have a status alone

none_long : decimal 0 ≡ codes "0"
none_long = decimal_digit 0 (omega arith)

abbrev plain : Text → Text → Bool → Text
plain line d close =
    line ++ field (codes "Content-Length") d ++ [] ++ [] ++ [] ++ [] ++ [] ++ [] ++ [] ++ [] ++ [] ++ [] ++ close_field close ++ crlf ++ []

failed_closing_by : (d : Text) → d ≡ codes "0" → codes "HTTP/1.1 500 Internal Server Error\r\nContent-Length: 0\r\nConnection: close\r\n\r\n" ≡ plain (status_line 500) d true
unfolding status_line
failed_closing_by d e = rw e refl

pub failed_closing : (head : Bool) → codes "HTTP/1.1 500 Internal Server Error\r\nContent-Length: 0\r\nConnection: close\r\n\r\n" ≡ reply_text head true failed_answer
failed_closing true = failed_closing_by (decimal 0) none_long
failed_closing false = failed_closing_by (decimal 0) none_long

failed_open_by : (d : Text) → d ≡ codes "0" → codes "HTTP/1.1 500 Internal Server Error\r\nContent-Length: 0\r\n\r\n" ≡ plain (status_line 500) d false
unfolding status_line
failed_open_by d e = rw e refl

pub failed_open : (head : Bool) → codes "HTTP/1.1 500 Internal Server Error\r\nContent-Length: 0\r\n\r\n" ≡ reply_text head false failed_answer
failed_open true = failed_open_by (decimal 0) none_long
failed_open false = failed_open_by (decimal 0) none_long

busy_closing_by : (d : Text) → d ≡ codes "0" → codes "HTTP/1.1 503 Service Unavailable\r\nContent-Length: 0\r\nConnection: close\r\n\r\n" ≡ plain (status_line 503) d true
unfolding status_line
busy_closing_by d e = rw e refl

pub busy_closing : (head : Bool) → codes "HTTP/1.1 503 Service Unavailable\r\nContent-Length: 0\r\nConnection: close\r\n\r\n" ≡ reply_text head true busy_answer
busy_closing true = busy_closing_by (decimal 0) none_long
busy_closing false = busy_closing_by (decimal 0) none_long

busy_open_by : (d : Text) → d ≡ codes "0" → codes "HTTP/1.1 503 Service Unavailable\r\nContent-Length: 0\r\n\r\n" ≡ plain (status_line 503) d false
unfolding status_line
busy_open_by d e = rw e refl

pub busy_open : (head : Bool) → codes "HTTP/1.1 503 Service Unavailable\r\nContent-Length: 0\r\n\r\n" ≡ reply_text head false busy_answer
busy_open true = busy_open_by (decimal 0) none_long
busy_open false = busy_open_by (decimal 0) none_long
