pub mod LentCertificate
